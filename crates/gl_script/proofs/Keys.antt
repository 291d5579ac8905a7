-- An object has the keys of one form alone.
use Rattle.std.proofs.Common.{◌≡◌, ℕ, List, Bool, true, false, cond, get_or, refl, sym, ap, ◌∙◌, arith, Option, Some, None, ◌⊎◌, inl, inr}
use Rattle.std.specs.Prelude.{codes, ◌&&◌, ◌==◌, is_some}
use Rattle.std.specs.Ordering.{nat_cmp, match_ordering}
use Rattle.std.specs.Cmp.Lexicographic.{slice_cmp}
use Rattle.std.specs.declared.cmp.Ordering.{Ordering}
use Rattle.std.specs.declared.cmp.Ordering.TheVariants.{Less, Equal, Greater}
use Rattle.std.proofs.lemmas.Bool.{false≢true}
use Rattle.std.proofs.lemmas.Bool.Decides.{Decides-eqb}
use Rattle.std.proofs.lemmas.Map.Lookups.{exact_bytes}
use Rattle.serde_json.specs.Data as json
use Rattle.serde_json.specs.Find.{get_member}
use Rattle.gl_meaning.specs.JsonText.{count_members, has_key, member_count}
use Rattle.gl_meaning.specs.ScriptOf.{is_set, has_data, is_fire, is_batch}

both : (b c : Bool) → (b && c) ≡ true → (b ≡ true) × (c ≡ true)
both true c h = (refl, h)
both false c h = absurd (false≢true h)

-- of so many members there are not another number
count_is : (n k : ℕ) (b : Bool) → ((n == k) && b) ≡ true → n ≡ k
count_is n k b h = (Decides-eqb n k).0 (both (n == k) b h).0

no_one : (n : ℕ) (b c : Bool) → ((n == 2) && b) ≡ true → ((n == 1) && c) ≡ false
no_one n b c h = rw (count_is n 2 b h) refl

pub set_is_no_batch : (d : json.Data) → is_set d ≡ true → is_batch d ≡ false
set_is_no_batch d h = no_one (member_count d) _ _ h

fire_no_one : (third : Bool) (n : ℕ) (b c : Bool) → ((n == cond third 3 2) && b) ≡ true → ((n == 1) && c) ≡ false
fire_no_one true n b c h = rw (count_is n 3 b h) refl
fire_no_one false n b c h = no_one n b c h

pub fire_is_no_batch : (d : json.Data) → is_fire d ≡ true → is_batch d ≡ false
fire_is_no_batch d h = fire_no_one (has_data d) (member_count d) _ _ h

-- a key of an object is one of its members' keys
key_step : (k l : List ℕ) (e : json.Data) (rest : Option json.Data) (o : Ordering) → slice_cmp nat_cmp k l ≡ o → is_some (match_ordering o rest (Some e) rest) ≡ true → (k ≡ l) ⊎ (is_some rest ≡ true)
key_step k l e rest Less is h = inr h
key_step k l e rest Equal is h = inl (exact_bytes k l is)
key_step k l e rest Greater is h = inr h

one_of_two : (k l m : List ℕ) (d e : json.Data) → is_some (get_member k (json.member l d (json.member m e json.no_members))) ≡ true → (k ≡ l) ⊎ (k ≡ m)
one_of_two k l m d e h = elim (key_step k l d _ (slice_cmp nat_cmp k l) refl h) [
  | inl x ↦ inl x
  | inr y ↦ elim (key_step k m e None (slice_cmp nat_cmp k m) refl y) [ inl x ↦ inr x | inr z ↦ absurd (false≢true z) ]
]

-- `set`, `to` and `event` are three keys
set_or_to : codes "set" ≡ codes "to" → ⊥
set_or_to e = let same : 115 ≡ 116 = ap (λ (xs : List ℕ). get_or xs 0 0) e in omega (arith, same)

set_or_event : codes "set" ≡ codes "event" → ⊥
set_or_event e = let same : 115 ≡ 101 = ap (λ (xs : List ℕ). get_or xs 0 0) e in omega (arith, same)

to_or_event : codes "to" ≡ codes "event" → ⊥
to_or_event e = let same : 116 ≡ 101 = ap (λ (xs : List ℕ). get_or xs 0 0) e in omega (arith, same)

three : (l m : List ℕ) → (codes "set" ≡ l) ⊎ (codes "set" ≡ m) → (codes "to" ≡ l) ⊎ (codes "to" ≡ m) → (codes "event" ≡ l) ⊎ (codes "event" ≡ m) → ⊥
three l m (inl s) (inl t) e = set_or_to (s ∙ sym t)
three l m (inr s) (inr t) e = set_or_to (s ∙ sym t)
three l m (inl s) (inr t) (inl e) = set_or_event (s ∙ sym e)
three l m (inl s) (inr t) (inr e) = to_or_event (t ∙ sym e)
three l m (inr s) (inl t) (inl e) = to_or_event (t ∙ sym e)
three l m (inr s) (inl t) (inr e) = set_or_event (s ∙ sym e)

two_members : (ms : json.Members) → count_members ms ≡ 2 → is_some (get_member (codes "set") ms) ≡ true → is_some (get_member (codes "to") ms) ≡ true → is_some (get_member (codes "event") ms) ≡ true → ⊥
two_members json.no_members n s t e = omega (arith, n)
two_members (json.member l d json.no_members) n s t e = omega (arith, n)
two_members (json.member l d (json.member m f json.no_members)) n s t e = three l m (one_of_two _ l m d f s) (one_of_two _ l m d f t) (one_of_two _ l m d f e)
two_members (json.member l d (json.member m f (json.member k g ms))) n s t e = omega (arith, n)

not_three : (d : json.Data) → member_count d ≡ 2 → has_key (codes "set") d ≡ true → has_key (codes "to") d ≡ true → has_key (codes "event") d ≡ true → ⊥
not_three (json.object ms) n s t e = two_members ms n s t e
not_three json.null n s t e = omega (arith, n)
not_three (json.boolean b) n s t e = omega (arith, n)
not_three (json.number x) n s t e = omega (arith, n)
not_three (json.string x) n s t e = omega (arith, n)
not_three (json.array ds) n s t e = omega (arith, n)

fire_cases : (two : Bool) (d : json.Data) → is_set d ≡ two → is_fire d ≡ true → two ≡ false
fire_cases false d is_s h = refl
fire_cases true d is_s h =
    let pair = count_is (member_count d) 2 _ is_s in
    let keys = both (has_key (codes "set") d) (has_key (codes "to") d) (both (member_count d == 2) _ is_s).1 in
    let rest = both (member_count d == cond (has_data d) 3 2) _ h in
    let fired = both (has_key (codes "event") d) (has_key (codes "fire") d) rest.1 in
    absurd (not_three d pair keys.0 keys.1 fired.0)

pub fire_is_no_set : (d : json.Data) → is_fire d ≡ true → is_set d ≡ false
fire_is_no_set d h = fire_cases (is_set d) d refl h
