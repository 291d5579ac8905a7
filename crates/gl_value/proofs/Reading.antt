-- Values that are read from JSON, one item or member after another.
use Rattle.std.proofs.Common.{◌≡◌, ℕ, suc, max, List, [], ◌∷◌, ◌++◌, Bool, true, refl, ap, ap₂, ◌∙◌, append_assoc}
use Rattle.std.specs.Str.{chars}
use Rattle.gl_base.specs.Texts.{Text}
use Rattle.gl_value.specs.Value.{Value, values_of, pairs_of, depth, values_depth, members_depth}
use Rattle.gl_value.specs.Json.{fits, items_fit, members_fit, value_of, items_of, members_of}
use Rattle.gl_value.specs.Proper.{Keeps, KeepAll}
use Rattle.gl_value.proofs.Keeping.{KeepValues, KeepAll-append, KeepValues-append}
use Rattle.serde_json.specs.Data as json

appended : {A : Type 0} (done new rest all : List A) (x : A) → done ++ x ∷ rest ≡ all → new ≡ done ++ x ∷ [] → new ++ rest ≡ all
appended done new rest all x whole e = rw e (append_assoc done (x ∷ []) rest ∙ whole)

-- what is left decides still, after an item or a member that fits
pub item_fit : (m : ℕ) (d : json.Data) (ds : json.Items) (b : Bool) → b ≡ items_fit m (json.item d ds) → fits m d ≡ true → b ≡ items_fit m ds
item_fit m d ds b h one = rw one at h

pub member_fit : (m : ℕ) (k : List ℕ) (d : json.Data) (ms : json.Members) (b : Bool) → b ≡ members_fit m (json.member k d ms) → fits m d ≡ true → b ≡ members_fit m ms
member_fit m k d ms b h one = rw one at h

-- one more item is read
pub item_next : (d : json.Data) (ds : json.Items) (done new all : List (Value ℕ)) (v : Value ℕ) → done ++ items_of (json.item d ds) ≡ all → KeepAll (values_of done) → v ≡ value_of d → Keeps v → new ≡ done ++ v ∷ []
    → (new ++ items_of ds ≡ all) × KeepAll (values_of new)
item_next d ds done new all v whole keeps is keep e =
    (appended done new (items_of ds) all v (rw is whole) e, rw e (KeepAll-append done v keeps keep))

-- one more member is read
pub member_next : (k : List ℕ) (d : json.Data) (ms : json.Members) (done new all : List (Text × Value ℕ)) (t : Text) (v : Value ℕ) → done ++ members_of (json.member k d ms) ≡ all → KeepValues done → t ≡ chars k → v ≡ value_of d → Keeps v → new ≡ done ++ (t, v) ∷ []
    → (new ++ members_of ms ≡ all) × KeepValues new
member_next k d ms done new all t v whole keeps key is keep e =
    (appended done new (members_of ms) all (t, v) (rw (key, is) whole) e, rw e (KeepValues-append done (t, v) keeps keep))

-- it is as deep as the JSON
mutual
  pub depth-value_of : (d : json.Data) → depth (value_of {O = ℕ} d) ≡ json.depth d
  depth-value_of json.null = refl
  depth-value_of (json.boolean b) = refl
  depth-value_of (json.number n) = refl
  depth-value_of (json.string s) = refl
  depth-value_of (json.array ds) = ap suc (depth-items_of ds)
  depth-value_of (json.object ms) = ap suc (depth-members_of ms)

  depth-items_of : (ds : json.Items) → values_depth (values_of (items_of {O = ℕ} ds)) ≡ json.items_depth ds
  depth-items_of json.no_items = refl
  depth-items_of (json.item d ds) = ap₂ max (depth-value_of d) (depth-items_of ds)

  depth-members_of : (ms : json.Members) → members_depth (pairs_of (members_of {O = ℕ} ms)) ≡ json.members_depth ms
  depth-members_of json.no_members = refl
  depth-members_of (json.member k d ms) = ap₂ max (depth-value_of d) (depth-members_of ms)
