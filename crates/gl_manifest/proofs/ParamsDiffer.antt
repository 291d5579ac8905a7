-- In a manifest that is read the parameters of an action differ.
use Rattle.std.proofs.Common.{◌≡◌, ◌<◌, ◌+◌, inl, inr, List, [], ◌∷◌, ℕ, zero, suc, Bool, true, false, Option, Some, None, Ok, refl, sym, ap, ◌∙◌, subst, arith}
use Rattle.std.specs.Prelude.{⊤, ◌&&◌, ◌||◌, not, nat_le}
use Rattle.std.specs.Str.{chars, bytes_eq}
use Rattle.std.proofs.lemmas.Slice.Eq.{bytes_eq-Decides}
use Rattle.serde_json.specs.Data as json
use Rattle.serde_json.specs.Find.{get_item}
use Rattle.gl_base.specs.Texts.{Text, bytes_of}
use Rattle.gl_ast.proofs.Forward.{both}
use Rattle.gl_meaning.specs.JsonText.{items_in, item_count}
use Rattle.gl_meaning.specs.Known.{Among}
use Rattle.gl_meaning.specs.Laws.{NoRepeat}
use Rattle.gl_meaning.specs.ManifestIs.{ItemsAre, IsText}
use Rattle.gl_meaning.specs.ManifestLimits as most
use Rattle.gl_meaning.specs.ManifestShape.{is_text, is_before, param_check}
use Rattle.gl_meaning.specs.NameTests.{is_free_name}
use Rattle.gl_meaning.specs.Walk.{Found, check_items, array_check}
use Rattle.gl_meaning.proofs.Forms.{under_sound, if_sound}
use Rattle.gl_manifest.proofs.Names.{free_bytes}

or_true : (b c : Bool) → c ≡ true → (b || c) ≡ true
or_true true c e = refl
or_true false c e = e

-- a text that stands at an earlier place is found before
before_is : (all : json.Items) (n m : ℕ) (s : List ℕ) → get_item n all ≡ Some (json.string s) → n < m → is_before m s all ≡ true
before_is json.no_items n m s at less = let r : ⊥ = cc in absurd r
before_is (json.item d ds) n zero s at less = let r : ⊥ = omega (arith, less) in absurd r
before_is (json.item d ds) zero (suc m) s at less =
    let is : d ≡ json.string s = cc in
    let same : bytes_eq s s ≡ true = (bytes_eq-Decides s s).1 refl in
    let here : is_text s d ≡ true = rw is same in
    rw here refl
before_is (json.item d ds) (suc n) (suc m) s at less = or_true (is_text s d) (is_before m s ds) (before_is ds n m s at (omega (arith, less)))

-- what a parameter that has passed is
param_is : (all : json.Data) (n : ℕ) (s : List ℕ) → param_check all n (json.string s) ≡ Ok tt → (is_free_name s ≡ true) × (is_before n s (items_in (Some all)) ≡ false)
unfolding param_check
param_is all n s sound =
    let fits = if_sound (is_free_name s && not (is_before n s (items_in (Some all)))) _ sound in
    let parts = both (is_free_name s) _ fits.0 in
    (parts.0, not_is (is_before n s (items_in (Some all))) parts.1)
  where
    not_is : (b : Bool) → not b ≡ true → b ≡ false
    not_is true e = sym e
    not_is false e = refl

same_bytes : (s t : List ℕ) → is_free_name s ≡ true → is_free_name t ≡ true → chars s ≡ chars t → s ≡ t
same_bytes s t free other same = sym (free_bytes s free) ∙ (ap bytes_of same ∙ free_bytes t other)

-- no later parameter is the one at the place
later_differs : (all : json.Data) (n m : ℕ) (s : List ℕ) → get_item n (items_in (Some all)) ≡ Some (json.string s) → n < m → is_free_name s ≡ true → (ds : json.Items) (xs : List Text) → check_items (param_check all) m ds ≡ Ok tt → ItemsAre IsText ds xs → Among (chars s) xs → ⊥
later_differs all n m s at less free json.no_items [] sound are among = among
later_differs all n m s at less free json.no_items (x ∷ xs) sound are among = are
later_differs all n m s at less free (json.item d ds) [] sound are among = are
later_differs all n m s at less free (json.item (json.string t) ds) (x ∷ xs) sound are (inl same) =
    let parts = under_sound _ (param_check all m (json.string t)) (check_items (param_check all) (m + 1) ds) sound in
    let is = param_is all m t parts.0 in
    let one : s ≡ t = same_bytes s t free is.0 (same ∙ are.0) in
    let found : is_before m s (items_in (Some all)) ≡ true = before_is (items_in (Some all)) n m s at less in
    let not_found : is_before m s (items_in (Some all)) ≡ false = rw one is.1 in
    cc
later_differs all n m s at less free (json.item (json.string t) ds) (x ∷ xs) sound are (inr among) =
    let parts = under_sound _ (param_check all m (json.string t)) (check_items (param_check all) (m + 1) ds) sound in
    later_differs all n (m + 1) s at (omega (arith, less)) free ds xs parts.1 are.1 among
later_differs all n m s at less free (json.item json.null ds) (x ∷ xs) sound are among = are.0
later_differs all n m s at less free (json.item (json.boolean b) ds) (x ∷ xs) sound are among = are.0
later_differs all n m s at less free (json.item (json.number k) ds) (x ∷ xs) sound are among = are.0
later_differs all n m s at less free (json.item (json.array es) ds) (x ∷ xs) sound are among = are.0
later_differs all n m s at less free (json.item (json.object ms) ds) (x ∷ xs) sound are among = are.0

-- from a place on, where the rest of the items stands
differ_from : (all : json.Data) (n : ℕ) (ds : json.Items) (xs : List Text) → ((i : ℕ) → get_item (n + i) (items_in (Some all)) ≡ get_item i ds) → check_items (param_check all) n ds ≡ Ok tt → ItemsAre IsText ds xs → NoRepeat xs
differ_from all n json.no_items [] rest sound are = tt
differ_from all n json.no_items (x ∷ xs) rest sound are = absurd are
differ_from all n (json.item d ds) [] rest sound are = absurd are
differ_from all n (json.item (json.string s) ds) (x ∷ xs) rest sound are =
    let parts = under_sound _ (param_check all n (json.string s)) (check_items (param_check all) (n + 1) ds) sound in
    let is = param_is all n s parts.0 in
    let here : get_item n (items_in (Some all)) ≡ Some (json.string s) = subst (λ k. get_item k (items_in (Some all)) ≡ Some (json.string s)) (omega arith) (rest 0) in
    let more = λ (i : ℕ). subst (λ k. get_item k (items_in (Some all)) ≡ get_item i ds) (omega arith) (rest (suc i)) in
    let here_alone : Among x xs → ⊥ = rw are.0 (later_differs all n (n + 1) s here (omega arith) is.0 ds xs parts.1 are.1) in
    (here_alone, differ_from all (n + 1) ds xs more parts.1 are.1)
differ_from all n (json.item json.null ds) (x ∷ xs) rest sound are = absurd are.0
differ_from all n (json.item (json.boolean b) ds) (x ∷ xs) rest sound are = absurd are.0
differ_from all n (json.item (json.number k) ds) (x ∷ xs) rest sound are = absurd are.0
differ_from all n (json.item (json.array es) ds) (x ∷ xs) rest sound are = absurd are.0
differ_from all n (json.item (json.object ms) ds) (x ∷ xs) rest sound are = absurd are.0

-- the parameters that are given differ
pub params_differ : (o : Option json.Data) (xs : List Text) → ((d : json.Data) → o ≡ Some d → array_check (nat_le (item_count d) most.params) (param_check d) d ≡ Ok tt) → ItemsAre IsText (items_in o) xs → NoRepeat xs
params_differ None [] passed are = tt
params_differ None (x ∷ xs) passed are = absurd are
params_differ (Some (json.array ds)) xs passed are =
    let sound = if_sound _ (check_items (param_check (json.array ds)) 0 ds) (passed (json.array ds) refl) in
    differ_from (json.array ds) 0 ds xs (λ i. ap (λ k. get_item k ds) (omega arith)) sound.1 are
params_differ (Some json.null) xs passed are = let e = passed json.null refl in let r : ⊥ = cc in absurd r
params_differ (Some (json.boolean b)) xs passed are = let e = passed (json.boolean b) refl in let r : ⊥ = cc in absurd r
params_differ (Some (json.number k)) xs passed are = let e = passed (json.number k) refl in let r : ⊥ = cc in absurd r
params_differ (Some (json.string s)) xs passed are = let e = passed (json.string s) refl in let r : ⊥ = cc in absurd r
params_differ (Some (json.object ms)) xs passed are = let e = passed (json.object ms) refl in let r : ⊥ = cc in absurd r
