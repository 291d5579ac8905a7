-- Plain forms of lists and of members, item by item.
use Rattle.std.proofs.Common.{◌≡◌, ◌∙◌, List, [], ◌∷◌, map, true, true≢false, refl, sym, ap, ap₂, Result, Ok, Err, IfOk}
use Rattle.gl_base.specs.Texts.{Text}
use Rattle.gl_value.specs.Value.{Value, undefined, null, boolean, integer, text, list, pairs, action, value, member, values_of, pairs_of, Values, no_values, Members, no_members, plain, plain_values, plain_members}
use Rattle.gl_value.specs.Plain.{plain_pair, is_plain, are_plain, have_plain}
use Rattle.gl_value.proofs.Sameness.{both_left, both_right}

pub plain_values-of : {O P : Type 0} (vs : List (Value O)) → values_of (map (λ (v : Value O). plain {P = P} v) vs) ≡ plain_values (values_of vs)
plain_values-of [] = refl
plain_values-of (v ∷ vs) = ap (λ l. value (plain v) l) (plain_values-of vs)

pub plain_members-of : {O P : Type 0} (ps : List (Text × Value O)) → pairs_of (map (λ (p : Text × Value O). plain_pair {P = P} p) ps) ≡ plain_members (pairs_of ps)
plain_members-of [] = refl
plain_members-of (p ∷ ps) = ap (λ l. member p.0 (plain p.1) l) (plain_members-of ps)

-- a value without actions is its own plain form
mutual
  pub plain_itself : {O : Type 0} (v : Value O) → is_plain v ≡ true → plain {P = O} v ≡ v
  plain_itself undefined e = refl
  plain_itself null e = refl
  plain_itself (boolean b) e = refl
  plain_itself (integer i) e = refl
  plain_itself (text t) e = refl
  plain_itself (list vs) e = ap list (plain_values_itself vs e)
  plain_itself (pairs ms) e = ap pairs (plain_members_itself ms e)
  plain_itself (action o n vs) e = absurd (true≢false (sym e))

  pub plain_values_itself : {O : Type 0} (vs : Values O) → are_plain vs ≡ true → plain_values {P = O} vs ≡ vs
  plain_values_itself no_values e = refl
  plain_values_itself (value v vs) e = ap₂ value (plain_itself v (both_left _ _ e)) (plain_values_itself vs (both_right (is_plain v) _ e))

  pub plain_members_itself : {O : Type 0} (ms : Members O) → have_plain ms ≡ true → plain_members {P = O} ms ≡ ms
  plain_members_itself no_members e = refl
  plain_members_itself (member k v ms) e = ap₂ (member k) (plain_itself v (both_left _ _ e)) (plain_members_itself ms (both_right (is_plain v) _ e))

pub plain_list_itself : {O : Type 0} (vs : List (Value O)) → are_plain (values_of vs) ≡ true → vs ≡ map (λ (v : Value O). plain {P = O} v) vs
plain_list_itself [] e = refl
plain_list_itself (v ∷ vs) e = ap₂ (λ w ws. w ∷ ws) (sym (plain_itself v (both_left _ _ e))) (plain_list_itself vs (both_right (is_plain v) _ e))

pub plain_pairs_itself : {O : Type 0} (ps : List (Text × Value O)) → have_plain (pairs_of ps) ≡ true → ps ≡ map (λ (p : Text × Value O). plain_pair {P = O} p) ps
plain_pairs_itself [] e = refl
plain_pairs_itself (p ∷ ps) e = ap₂ (λ q qs. q ∷ qs) (ap (λ w. (p.0, w)) (sym (plain_itself p.1 (both_left _ _ e)))) (plain_pairs_itself ps (both_right (is_plain p.1) _ e))

-- what is equal to a value is so to each that the value is equal to
pub if_same : {A E : Type 0} (r : Result A E) (x y : A) → IfOk r (λ a. a ≡ x) → x ≡ y → IfOk r (λ a. a ≡ y)
if_same (Ok a) x y e f = e ∙ f
if_same (Err z) x y e f = e
