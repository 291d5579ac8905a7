-- What a look-up finds, and what a change of one value leaves.
use Rattle.std.proofs.Common.{◌≡◌, ℕ, ◌+◌, ◌<◌, ◌≤◌, List, [], ◌∷◌, Bool, true, false, not, cond, length, get_or, set, refl, ap, add_comm, add-one, arith, Option, Some, option_map}
use Rattle.std.specs.List.{prefix_len, find}
use Rattle.std.specs.Str.{bytes_eq}
use Rattle.gl_base.specs.Texts.{Text}
use Rattle.gl_base.specs.Names.{named}
use Rattle.gl_value.specs.Named.{set_named}
use Rattle.gl_value.specs.Value.{Value}
use Rattle.gl_value.specs.View.{view, Entry, seen_entry, seen_entries}
use Rattle.gl_value.specs.declared.value.Value as code

module _ {A : Type 0} where
  abbrev pub place_in : Text → List (Text × A) → ℕ
  place_in n es = prefix_len (λ (e : Text × A). not (bytes_eq n e.0)) es

  set_step : (b : Bool) (e : Text × A) (es rest : List (Text × A)) (v : A) (k : ℕ) (d : Text × A) → (k < length es → rest ≡ set es k ((get_or es k d).0, v)) → cond (not b) (1 + k) 0 < length (e ∷ es) → cond b ((e.0, v) ∷ es) (e ∷ rest) ≡ set (e ∷ es) (cond (not b) (1 + k) 0) ((get_or (e ∷ es) (cond (not b) (1 + k) 0) d).0, v)
  set_step true e es rest v k d step h = refl
  set_step false e es rest v k d step h = rw (add_comm 1 k, add-one) (ap (λ l. e ∷ l) (step (omega arith)))

  pub set_named_at : (n : Text) (v : A) (es : List (Text × A)) (d : Text × A) → place_in n es < length es → set_named n v es ≡ set es (place_in n es) ((get_or es (place_in n es) d).0, v)
  set_named_at n v [] d h = refl
  set_named_at n v (e ∷ es) d h = set_step (bytes_eq n e.0) e es (set_named n v es) v (place_in n es) d (set_named_at n v es d) h

  past_step : (b : Bool) (e : Text × A) (es rest : List (Text × A)) (v : A) (k : ℕ) → (length es ≤ k → rest ≡ es) → length (e ∷ es) ≤ cond (not b) (1 + k) 0 → cond b ((e.0, v) ∷ es) (e ∷ rest) ≡ e ∷ es
  past_step true e es rest v k step h = absurd (omega arith)
  past_step false e es rest v k step h = ap (λ l. e ∷ l) (step (omega arith))

  pub set_named_past : (n : Text) (v : A) (es : List (Text × A)) → length es ≤ place_in n es → set_named n v es ≡ es
  set_named_past n v [] h = refl
  set_named_past n v (e ∷ es) h = past_step (bytes_eq n e.0) e es (set_named n v es) v (place_in n es) (set_named_past n v es) h

-- a look-up and a change, in the entries as definitions see them
seen_found : (b : Bool) (e : Entry) (o : Option Entry) (p : Option (Value ℕ)) → option_map (λ (x : Entry). view x.1) o ≡ p → option_map (λ (x : Entry). view x.1) (cond b (Some e) o) ≡ cond b (Some (view e.1)) p
seen_found true e o p h = refl
seen_found false e o p h = h

pub named-found : (n : Text) (es : List Entry) → option_map (λ (e : Entry). view e.1) (find (λ (e : Entry). bytes_eq n e.0) es) ≡ named n (seen_entries es)
named-found n [] = refl
named-found n (e ∷ es) = seen_found (bytes_eq n e.0) e (find (λ (x : Entry). bytes_eq n x.0) es) (named n (seen_entries es)) (named-found n es)

seen_set : (b : Bool) (e : Entry) (es rest : List Entry) (v : code.Value) (new : List (Text × Value ℕ)) → seen_entries rest ≡ new → seen_entries (cond b ((e.0, v) ∷ es) (e ∷ rest)) ≡ cond b ((e.0, view v) ∷ seen_entries es) (seen_entry e ∷ new)
seen_set true e es rest v new h = refl
seen_set false e es rest v new h = ap (λ l. seen_entry e ∷ l) h

pub set_named-seen : (n : Text) (v : code.Value) (es : List Entry) → seen_entries (set_named n v es) ≡ set_named n (view v) (seen_entries es)
set_named-seen n v [] = refl
set_named-seen n v (e ∷ es) = seen_set (bytes_eq n e.0) e es (set_named n v es) v (set_named n (view v) (seen_entries es)) (set_named-seen n v es)
