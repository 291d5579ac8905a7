-- The rules on values with other owners.
use Rattle.std.proofs.Common.{◌≡◌, ℕ, zero, suc, max, pos, negsuc, List, [], ◌∷◌, ◌++◌, Bool, true, false, cond, refl, ap, ap₂, ◌∙◌, inl, inr, length, min, decimal}
use Rattle.std.specs.Prelude.{◌&&◌, codes}
use Rattle.std.specs.Str.{bytes_eq}
use Rattle.std.proofs.lemmas.Bool.Decides.{same_from_decides}
use Rattle.gl_base.specs.Texts.{Text}
use Rattle.gl_value.specs.Value.{Value, undefined, null, boolean, integer, text, list, pairs, action, Values, no_values, value, Members, no_members, member, depth, values_depth, members_depth, has_none, truthy, same, same_values, same_members, comma_if, text_of, texts_of, plain, plain_values, plain_members, attribute_text, values_count, count_value, member_at, item_at, property, properties, split, key_of}
use Rattle.gl_value.specs.Owners.{with_owners, values_with, members_with, Owns, OwnsIn, OwnsAmong}
use Rattle.gl_value.specs.Laws.{RulesLeaveOwners, PlainLeavesOwners, PropertyKeepsOwners, SameLeavesOwners}

module _ {O P : Type 0} (f : O → P) where
  none-with : (vs : Values O) → has_none (values_with f vs) ≡ has_none vs
  none-with no_values = refl
  none-with (value v vs) = refl

  truthy-with : (v : Value O) → truthy (with_owners f v) ≡ truthy v
  truthy-with undefined = refl
  truthy-with null = refl
  truthy-with (boolean b) = refl
  truthy-with (integer (pos zero)) = refl
  truthy-with (integer (pos (suc n))) = refl
  truthy-with (integer (negsuc n)) = refl
  truthy-with (text t) = refl
  truthy-with (list no_values) = refl
  truthy-with (list (value v vs)) = refl
  truthy-with (pairs ms) = refl
  truthy-with (action o n vs) = refl

  mutual
    text-with : (v : Value O) → text_of (with_owners f v) ≡ text_of v
    text-with undefined = refl
    text-with null = refl
    text-with (boolean b) = refl
    text-with (integer i) = refl
    text-with (text t) = refl
    text-with (list vs) = texts-with false vs
    text-with (pairs ms) = refl
    text-with (action o n vs) = refl

    texts-with : (later : Bool) (vs : Values O) → texts_of later (values_with f vs) ≡ texts_of later vs
    texts-with later no_values = refl
    texts-with later (value v vs) = ap (λ t. comma_if later ++ t) (ap₂ (λ s t. s ++ t) (text-with v) (texts-with true vs))

  attribute-with : (v : Value O) → attribute_text (with_owners f v) ≡ attribute_text v
  attribute-with undefined = refl
  attribute-with null = refl
  attribute-with (boolean true) = refl
  attribute-with (boolean false) = refl
  attribute-with (integer i) = refl
  attribute-with (text t) = refl
  attribute-with (list vs) = rw (texts-with false vs) refl
  attribute-with (pairs ms) = refl
  attribute-with (action o n vs) = refl

  mutual
    depth-with : (v : Value O) → depth (with_owners f v) ≡ depth v
    depth-with undefined = refl
    depth-with null = refl
    depth-with (boolean b) = refl
    depth-with (integer i) = refl
    depth-with (text t) = refl
    depth-with (list vs) = ap suc (values_depth-with vs)
    depth-with (pairs ms) = ap suc (members_depth-with ms)
    depth-with (action o n vs) = ap suc (values_depth-with vs)

    values_depth-with : (vs : Values O) → values_depth (values_with f vs) ≡ values_depth vs
    values_depth-with no_values = refl
    values_depth-with (value v vs) = ap₂ max (depth-with v) (values_depth-with vs)

    members_depth-with : (ms : Members O) → members_depth (members_with f ms) ≡ members_depth ms
    members_depth-with no_members = refl
    members_depth-with (member k v ms) = ap₂ max (depth-with v) (members_depth-with ms)

  count-with : (vs : Values O) → values_count (values_with f vs) ≡ values_count vs
  count-with no_values = refl
  count-with (value v vs) = ap suc (count-with vs)

  chosen-with : (b : Bool) (v : Value O) (w : Value O) (x : Value P) → x ≡ with_owners f w → cond b (with_owners f v) x ≡ with_owners f (cond b v w)
  chosen-with true v w x e = refl
  chosen-with false v w x e = e

  member_at-with : (k : Text) (ms : Members O) → member_at k (members_with f ms) ≡ with_owners f (member_at k ms)
  member_at-with k no_members = refl
  member_at-with k (member l v ms) = chosen-with (bytes_eq k l) v (member_at k ms) _ (member_at-with k ms)

  item_at-with : (k : Text) (i : ℕ) (vs : Values O) → item_at k i (values_with f vs) ≡ with_owners f (item_at k i vs)
  item_at-with k i no_values = refl
  item_at-with k i (value v vs) = chosen-with (bytes_eq k (decimal (min i 9007199254740991))) v (item_at k (suc i) vs) _ (item_at-with k (suc i) vs)

  pub property-with : (k : Text) (v : Value O) → property k (with_owners f v) ≡ with_owners f (property k v)
  property-with k undefined = refl
  property-with k null = refl
  property-with k (boolean b) = refl
  property-with k (integer i) = refl
  property-with k (text t) = chosen-with (bytes_eq k (codes "length")) (count_value (length t)) undefined undefined refl
  property-with k (list vs) = rw (count-with vs) (chosen-with (bytes_eq k (codes "length")) (count_value (values_count vs)) (item_at k 0 vs) _ (item_at-with k 0 vs))
  property-with k (pairs ms) = member_at-with k ms
  property-with k (action o n vs) = refl

  properties-with : (ks : List Text) (v : Value O) → properties ks (with_owners f v) ≡ with_owners f (properties ks v)
  properties-with [] v = refl
  properties-with (k ∷ ks) v = ap (properties ks) (property-with k v) ∙ properties-with ks (property k v)

  module _ {Q : Type 0} where
    mutual
      plain-with : (v : Value O) → plain {P = Q} (with_owners f v) ≡ plain {P = Q} v
      plain-with undefined = refl
      plain-with null = refl
      plain-with (boolean b) = refl
      plain-with (integer i) = refl
      plain-with (text t) = refl
      plain-with (list vs) = ap list (plain_values-with vs)
      plain-with (pairs ms) = ap pairs (plain_members-with ms)
      plain-with (action o n vs) = refl

      plain_values-with : (vs : Values O) → plain_values {P = Q} (values_with f vs) ≡ plain_values {P = Q} vs
      plain_values-with no_values = refl
      plain_values-with (value v vs) = ap₂ value (plain-with v) (plain_values-with vs)

      plain_members-with : (ms : Members O) → plain_members {P = Q} (members_with f ms) ≡ plain_members {P = Q} ms
      plain_members-with no_members = refl
      plain_members-with (member k v ms) = ap₂ (member k) (plain-with v) (plain_members-with ms)

    key-with : (k : Text) (i : ℕ) (v : Value O) → key_of {P = Q} k i (with_owners f v) ≡ key_of {P = Q} k i v
    key-with k i v = rw (plain-with v, properties-with (split 46 k) v, plain-with (properties (split 46 k) v)) refl

  module _ (eq : O → O → Bool) (eqv : P → P → Bool) where
    abbrev Agree : O → O → Type 0
    Agree o p = eqv (f o) (f p) ≡ eq o p

    mutual
      same-with : (v w : Value O) → ((o p : O) → Owns o v → Owns p w → Agree o p) → same eqv (with_owners f v) (with_owners f w) ≡ same eq v w
      same-with (list vs) (list ws) h = same_values-with vs ws h
      same-with (pairs ms) (pairs ns) h = same_members-with ms ns h
      same-with (action o n vs) (action p m ws) h =
          ap₂ (λ a b. a && b) (ap (λ a. a && bytes_eq n m) (h o p (inl refl) (inl refl))) (same_values-with vs ws (λ q r i j. h q r (inr i) (inr j)))
      same-with undefined undefined h = refl
      same-with undefined null h = refl
      same-with undefined (boolean y) h = refl
      same-with undefined (integer y) h = refl
      same-with undefined (text y) h = refl
      same-with undefined (list y) h = refl
      same-with undefined (pairs y) h = refl
      same-with undefined (action b m ys) h = refl
      same-with null undefined h = refl
      same-with null null h = refl
      same-with null (boolean y) h = refl
      same-with null (integer y) h = refl
      same-with null (text y) h = refl
      same-with null (list y) h = refl
      same-with null (pairs y) h = refl
      same-with null (action b m ys) h = refl
      same-with (boolean x) undefined h = refl
      same-with (boolean x) null h = refl
      same-with (boolean x) (boolean y) h = refl
      same-with (boolean x) (integer y) h = refl
      same-with (boolean x) (text y) h = refl
      same-with (boolean x) (list y) h = refl
      same-with (boolean x) (pairs y) h = refl
      same-with (boolean x) (action b m ys) h = refl
      same-with (integer x) undefined h = refl
      same-with (integer x) null h = refl
      same-with (integer x) (boolean y) h = refl
      same-with (integer x) (integer y) h = refl
      same-with (integer x) (text y) h = refl
      same-with (integer x) (list y) h = refl
      same-with (integer x) (pairs y) h = refl
      same-with (integer x) (action b m ys) h = refl
      same-with (text x) undefined h = refl
      same-with (text x) null h = refl
      same-with (text x) (boolean y) h = refl
      same-with (text x) (integer y) h = refl
      same-with (text x) (text y) h = refl
      same-with (text x) (list y) h = refl
      same-with (text x) (pairs y) h = refl
      same-with (text x) (action b m ys) h = refl
      same-with (list x) undefined h = refl
      same-with (list x) null h = refl
      same-with (list x) (boolean y) h = refl
      same-with (list x) (integer y) h = refl
      same-with (list x) (text y) h = refl
      same-with (list x) (pairs y) h = refl
      same-with (list x) (action b m ys) h = refl
      same-with (pairs x) undefined h = refl
      same-with (pairs x) null h = refl
      same-with (pairs x) (boolean y) h = refl
      same-with (pairs x) (integer y) h = refl
      same-with (pairs x) (text y) h = refl
      same-with (pairs x) (list y) h = refl
      same-with (pairs x) (action b m ys) h = refl
      same-with (action a n xs) undefined h = refl
      same-with (action a n xs) null h = refl
      same-with (action a n xs) (boolean y) h = refl
      same-with (action a n xs) (integer y) h = refl
      same-with (action a n xs) (text y) h = refl
      same-with (action a n xs) (list y) h = refl
      same-with (action a n xs) (pairs y) h = refl

      same_values-with : (vs ws : Values O) → ((o p : O) → OwnsIn o vs → OwnsIn p ws → Agree o p) → same_values eqv (values_with f vs) (values_with f ws) ≡ same_values eq vs ws
      same_values-with no_values no_values h = refl
      same_values-with no_values (value w ws) h = refl
      same_values-with (value v vs) no_values h = refl
      same_values-with (value v vs) (value w ws) h = ap₂ (λ a b. a && b) (same-with v w (λ q r i j. h q r (inl i) (inl j))) (same_values-with vs ws (λ q r i j. h q r (inr i) (inr j)))

      same_members-with : (ms ns : Members O) → ((o p : O) → OwnsAmong o ms → OwnsAmong p ns → Agree o p) → same_members eqv (members_with f ms) (members_with f ns) ≡ same_members eq ms ns
      same_members-with no_members no_members h = refl
      same_members-with no_members (member l w ns) h = refl
      same_members-with (member k v ms) no_members h = refl
      same_members-with (member k v ms) (member l w ns) h = ap₂ (λ a b. a && b) (ap (λ a. bytes_eq k l && a) (same-with v w (λ q r i j. h q r (inl i) (inl j)))) (same_members-with ms ns (λ q r i j. h q r (inr i) (inr j)))

pub rules_leave_owners : {O P : Type 0} → RulesLeaveOwners O P
rules_leave_owners f v = (truthy-with f v, text-with f v, attribute-with f v, depth-with f v)

pub plain_leaves_owners : {O P Q : Type 0} → PlainLeavesOwners O P Q
plain_leaves_owners {Q = Q} f v = (plain-with f {Q = Q} v, λ k i. key-with f {Q = Q} k i v)

pub property_keeps_owners : {O P : Type 0} → PropertyKeepsOwners O P
property_keeps_owners f k v = property-with f k v

pub same_leaves_owners : {O P : Type 0} → SameLeavesOwners O P
same_leaves_owners eq eqv law lawv f v w once =
    same-with f eq eqv v w (λ o p i j.
    same_from_decides (eqv (f o) (f p)) (eq o p) ((λ t. once o p i j ((lawv (f o) (f p)).0 t)), (λ e. (lawv (f o) (f p)).1 (ap f e))) (law o p))
