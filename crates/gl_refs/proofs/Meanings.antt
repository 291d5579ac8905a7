-- What references mean: the one equation, and what it does not depend on.
use Rattle.std.proofs.Common.{◌≡◌, ℕ, zero, suc, ◌<◌, Bool, true, false, cond, ltb, eqb, List, [], ◌∷◌, ◌++◌, map, flat_map, take, drop, refl, sym, ◌∙◌, ap, arith, ◌⊎◌, inl, inr}
use Rattle.std.specs.List.{list_any}
use Rattle.std.specs.Prelude.{◌||◌, slice_get}
use Rattle.std.proofs.lemmas.Bool.{or_parts, lt-ltb, ltb-true}
use Rattle.std.proofs.lemmas.List.Folds.{list_any-append}
use Rattle.gl_arena.specs.Id.{Id}
use Rattle.gl_base.specs.Texts.{Text}
use Rattle.gl_value.specs.Value.{truthy, property, join_values}
use Rattle.gl_refs.specs.Forms.{V, NamedIds, Form, constant_form, source_form, prop_form, call_form, cat_form, all_form, Pair, blank, ids_of, is_choice, called, value_or, value_by, parts, branch, flipped, chosen, reads, own_sources, pair_by, Look, form_at, below, meaning_to, meaning, Like, Each}

below_by : (f g : Id → Pair) (i k : Id) (b : Bool) → ltb k.1 i.1 ≡ b → (k.1 < i.1 → f k ≡ g k) → cond b (f k) blank ≡ cond b (g k) blank
below_by f g i k true e h = h (ltb-true k.1 i.1 e)
below_by f g i k false e h = refl

below_same : (f g : Id → Pair) (i k : Id) → (k.1 < i.1 → f k ≡ g k) → below f i k ≡ below g i k
below_same f g i k h = below_by f g i k (ltb k.1 i.1) refl h

pub below_is : (f : Id → Pair) (i k : Id) → k.1 < i.1 → below f i k ≡ f k
below_is f i k lt = rw (lt-ltb k.1 i.1 lt) refl

agree : (n m : ℕ) (l : Look) (i : Id) → i.1 < n → i.1 < m → meaning_to n l i ≡ meaning_to m l i
agree zero m l i a b = absurd (omega (arith, a))
agree (suc n) zero l i a b = absurd (omega (arith, b))
agree (suc n) (suc m) l i a b =
    ap (λ (f : Id → Pair). pair_by f (form_at l i)) (λ t k. below_same (meaning_to n l) (meaning_to m l) i k (λ lt. agree n m l k (omega (arith, a, lt)) (omega (arith, b, lt))) t)

-- the one equation
pub meaning_is : (l : Look) (i : Id) → meaning l i ≡ pair_by (below (meaning l) i) (form_at l i)
unfolding meaning
meaning_is l i =
    ap (λ (f : Id → Pair). pair_by f (form_at l i)) (λ t k. below_same (meaning_to i.1 l) (λ q. meaning_to (suc q.1) l q) i k (λ lt. agree i.1 (suc k.1) l k lt (omega arith)) t)

pub each_map : (P Q : Id → Type 0) (xs : List Id) → ((x : Id) → P x → Q x) → Each P xs → Each Q xs
each_map P Q [] h e = tt
each_map P Q (x ∷ xs) h e = (h x e.0, each_map P Q xs h e.1)

each_take : (P : Id → Type 0) (n : ℕ) (xs : List Id) → Each P xs → Each P (take n xs)
each_take P zero xs e = tt
each_take P (suc n) [] e = tt
each_take P (suc n) (x ∷ xs) e = (e.0, each_take P n xs e.1)

each_drop : (P : Id → Type 0) (n : ℕ) (xs : List Id) → Each P xs → Each P (drop n xs)
each_drop P zero xs e = e
each_drop P (suc n) [] e = tt
each_drop P (suc n) (x ∷ xs) e = each_drop P n xs e.1

each_branch : (P : Id → Type 0) (b : Bool) (xs : List Id) → Each P xs → Each P (branch b xs)
each_branch P true xs e = each_take P 1 xs e
each_branch P false xs e = each_take P 1 (drop 1 xs) (each_drop P 1 xs e)

each_chosen : (P : Id → Type 0) (f : Id → V) (way : Bool) (xs : List Id) → Each P xs → Each P (chosen f way xs)
each_chosen P f way [] e = tt
each_chosen P f way (a ∷ rest) e = (e.0, each_branch P (flipped way (truthy (f a))) rest e.1)

pub each_append : (P : Id → Type 0) (xs ys : List Id) → Each P xs → Each P ys → Each P (xs ++ ys)
each_append P [] ys e f = f
each_append P (x ∷ xs) ys e f = (e.0, each_append P xs ys e.1 f)

pub each_front : (P : Id → Type 0) (xs ys : List Id) → Each P (xs ++ ys) → Each P xs
each_front P [] ys e = tt
each_front P (x ∷ xs) ys e = (e.0, each_front P xs ys e.1)

pub each_back : (P : Id → Type 0) (xs ys : List Id) → Each P (xs ++ ys) → Each P ys
each_back P [] ys e = e
each_back P (x ∷ xs) ys e = each_back P xs ys e.1

each_call : (P : Id → Type 0) (f : Id → V) (way b : Bool) (xs ys : List Id) → Each P (xs ++ ys) → Each P (cond b (chosen f way xs) (xs ++ ys))
each_call P f way true xs ys e = each_chosen P f way xs (each_front P xs ys e)
each_call P f way false xs ys e = e

-- what is read is among the parts
pub each_read : (P : Id → Type 0) (f : Id → V) (g : Form) → Each P (parts g) → Each P (reads f g)
each_read P f (constant_form v) e = e
each_read P f (source_form k t v) e = e
each_read P f (prop_form r n) e = e
each_read P f (call_form h ids ns) e = each_call P f (eqb h 0) (is_choice h) ids (ids_of ns) e
each_read P f (cat_form ids) e = e
each_read P f (all_form ids) e = e

-- what a form gives depends on what it reads alone
module _ (f g : Id → V) where
  values_same : (xs : List Id) → Each (λ q. f q ≡ g q) xs → map f xs ≡ map g xs
  values_same [] e = refl
  values_same (x ∷ xs) e = rw (e.0, values_same xs e.1) refl

  names_same : (ns : NamedIds) → Each (λ q. f q ≡ g q) (ids_of ns) → map {B = Text × V} (λ (n : Text × Id). (n.0, f n.1)) ns ≡ map {B = Text × V} (λ (n : Text × Id). (n.0, g n.1)) ns
  names_same [] e = refl
  names_same (n ∷ ns) e =
      let P : V → List (Text × V) → List (Text × V) = λ v ms. (n.0, v) ∷ ms in
      ap (λ v. P v (map (λ (n : Text × Id). let x : Text × V = (n.0, f n.1) in x) ns)) e.0 ∙ ap (P (g n.1)) (names_same ns e.1)

  chosen_same : (way : Bool) (xs : List Id) → Each (λ q. f q ≡ g q) (chosen f way xs) → chosen f way xs ≡ chosen g way xs
  chosen_same way [] e = refl
  chosen_same way (a ∷ rest) e = ap (λ v. a ∷ branch (flipped way (truthy v)) rest) e.0

  reads_call : (way b : Bool) (xs ys : List Id) → Each (λ q. f q ≡ g q) (cond b (chosen f way xs) ys) → cond b (chosen f way xs) ys ≡ cond b (chosen g way xs) ys
  reads_call way true xs ys e = chosen_same way xs e
  reads_call way false xs ys e = refl

  pub reads_same : (o : Form) → Each (λ q. f q ≡ g q) (reads f o) → reads f o ≡ reads g o
  reads_same (constant_form v) e = refl
  reads_same (source_form k t v) e = refl
  reads_same (prop_form r n) e = refl
  reads_same (call_form h ids ns) e = reads_call (eqb h 0) (is_choice h) ids (ids ++ ids_of ns) e
  reads_same (cat_form ids) e = refl
  reads_same (all_form ids) e = refl

  second_same : (xs : List Id) → Each (λ q. f q ≡ g q) xs → value_or f (slice_get xs 1) ≡ value_or g (slice_get xs 1)
  second_same [] e = refl
  second_same (x ∷ []) e = refl
  second_same (x ∷ y ∷ ys) e = e.1.0

  value_call : (h : ℕ) (way b : Bool) (ids : List Id) (ns : NamedIds) → Each (λ q. f q ≡ g q) (cond b (chosen f way ids) (ids ++ ids_of ns))
      → cond b (value_or f (slice_get (chosen f way ids) 1)) (called h (map f ids) (map {B = Text × V} (λ (n : Text × Id). (n.0, f n.1)) ns))
      ≡ cond b (value_or g (slice_get (chosen g way ids) 1)) (called h (map g ids) (map {B = Text × V} (λ (n : Text × Id). (n.0, g n.1)) ns))
  value_call h way true ids ns e = second_same (chosen f way ids) e ∙ ap (λ xs. value_or g (slice_get xs 1)) (chosen_same way ids e)
  value_call h way false ids ns e =
      ap (λ vs. called h vs (map {B = Text × V} (λ (n : Text × Id). (n.0, f n.1)) ns)) (values_same ids (each_front (λ q. f q ≡ g q) ids (ids_of ns) e))
      ∙ ap (called h (map g ids)) (names_same ns (each_back (λ q. f q ≡ g q) ids (ids_of ns) e))

  pub value_same : (o : Form) → Each (λ q. f q ≡ g q) (reads f o) → value_by f o ≡ value_by g o
  value_same (constant_form v) e = refl
  value_same (source_form k t v) e = refl
  value_same (prop_form r n) e = ap (property n) e.0
  value_same (call_form h ids ns) e = value_call h (eqb h 0) (is_choice h) ids ns e
  value_same (cat_form ids) e = ap join_values (values_same ids e)
  value_same (all_form ids) e = refl

-- what is read at a place depends on what is read before it alone
module _ (f g : Id → V) where
  chosen_front : (way : Bool) (xs : List Id) (k : ℕ) → Each (λ q. f q ≡ g q) (take k (chosen f way xs)) → take (suc k) (chosen f way xs) ≡ take (suc k) (chosen g way xs)
  chosen_front way [] k e = refl
  chosen_front way (a ∷ rest) zero e = refl
  chosen_front way (a ∷ rest) (suc k) e = ap (λ v. take (suc (suc k)) (a ∷ branch (flipped way (truthy v)) rest)) e.0

  call_front : (way b : Bool) (xs ys : List Id) (k : ℕ) → Each (λ q. f q ≡ g q) (take k (cond b (chosen f way xs) ys)) → take (suc k) (cond b (chosen f way xs) ys) ≡ take (suc k) (cond b (chosen g way xs) ys)
  call_front way true xs ys k e = chosen_front way xs k e
  call_front way false xs ys k e = refl

  pub reads_front : (o : Form) (k : ℕ) → Each (λ q. f q ≡ g q) (take k (reads f o)) → take (suc k) (reads f o) ≡ take (suc k) (reads g o)
  reads_front (constant_form v) k e = refl
  reads_front (source_form n t v) k e = refl
  reads_front (prop_form r n) k e = refl
  reads_front (call_form h ids ns) k e = call_front (eqb h 0) (is_choice h) ids (ids ++ ids_of ns) k e
  reads_front (cat_form ids) k e = refl
  reads_front (all_form ids) k e = refl

module _ (f g : Id → Pair) where
  sources_like : (xs : List Id) → Each (λ q. Like (f q) (g q)) xs → (t : Id → Bool) → list_any t (flat_map (λ q. (f q).sources) xs) ≡ list_any t (flat_map (λ q. (g q).sources) xs)
  sources_like [] e t = refl
  sources_like (x ∷ xs) e t = list_any-append t (f x).sources (flat_map (λ q. (f q).sources) xs)
      ∙ (ap (λ b. b || list_any t (flat_map (λ q. (f q).sources) xs)) (e.0.sources t) ∙ ap (λ b. list_any t (g x).sources || b) (sources_like xs e.1 t))
      ∙ sym (list_any-append t (g x).sources (flat_map (λ q. (g q).sources) xs))

  values_like : (xs : List Id) → Each (λ q. Like (f q) (g q)) xs → Each (λ q. (f q).value ≡ (g q).value) xs
  values_like xs e = each_map (λ q. Like (f q) (g q)) (λ q. (f q).value ≡ (g q).value) xs (λ q h. h.value) e

  reads_like : (o : Form) → Each (λ q. Like (f q) (g q)) (reads (λ q. (f q).value) o) → reads (λ q. (f q).value) o ≡ reads (λ q. (g q).value) o
  reads_like o e = reads_same (λ q. (f q).value) (λ q. (g q).value) o (values_like (reads (λ q. (f q).value) o) e)

  -- where what is read is alike, so is what it is read for
  pub by_like : (o : Form) → Each (λ q. Like (f q) (g q)) (reads (λ q. (f q).value) o) → Like (pair_by f o) (pair_by g o)
  by_like o e = record {
    value = value_same (λ q. (f q).value) (λ q. (g q).value) o (values_like (reads (λ q. (f q).value) o) e);
    sources = λ t. list_any-append t (own_sources o) (flat_map (λ q. (f q).sources) (reads (λ q. (f q).value) o))
        ∙ (ap (λ b. list_any t (own_sources o) || b) (sources_like (reads (λ q. (f q).value) o) e t ∙ ap (λ xs. list_any t (flat_map (λ q. (g q).sources) xs)) (reads_like o e))
        ∙ sym (list_any-append t (own_sources o) (flat_map (λ q. (g q).sources) (reads (λ q. (g q).value) o))));
  }

  same_each : (xs : List Id) → Each (λ q. g q ≡ f q) xs → Each (λ q. Like (f q) (g q)) xs
  same_each xs e = each_map (λ q. g q ≡ f q) (λ q. Like (f q) (g q)) xs (λ q h. record { value = ap (λ p. p.value) (sym h); sources = λ t. ap (λ p. list_any t p.sources) (sym h) }) e

  flat_same : (xs : List Id) → Each (λ q. g q ≡ f q) xs → flat_map (λ q. (g q).sources) xs ≡ flat_map (λ q. (f q).sources) xs
  flat_same [] e = refl
  flat_same (x ∷ xs) e = rw (e.0, flat_same xs e.1) refl

  pub by_same : (o : Form) → Each (λ q. g q ≡ f q) (reads (λ q. (f q).value) o) → pair_by g o ≡ pair_by f o
  by_same o e =
      let rs = reads (λ q. (f q).value) o in
      let r = reads_like o (same_each rs e) in
      let v = sym (value_same (λ q. (f q).value) (λ q. (g q).value) o (values_like rs (same_each rs e))) in
      let s = ap (λ xs. own_sources o ++ xs) (ap (flat_map (λ q. (g q).sources)) (sym r) ∙ flat_same rs e) in
      λ t. record { value = v t; sources = s t }

-- Where none of its sources was touched, a reference means the same.
module _ (touched : Id → Bool) (l l' : Look) (same : (i : Id) → (form_at l' i ≡ form_at l i) ⊎ (list_any touched (own_sources (form_at l i)) ≡ true)) where
  cold_parts : (m : Id → Pair) (xs : List Id) → list_any touched (flat_map (λ q. (m q).sources) xs) ≡ false → Each (λ q. list_any touched (m q).sources ≡ false) xs
  cold_parts m [] h = tt
  cold_parts m (x ∷ xs) h = let e = or_parts (list_any touched (m x).sources) (list_any touched (flat_map (λ q. (m q).sources) xs)) (sym (list_any-append touched (m x).sources (flat_map (λ q. (m q).sources) xs)) ∙ h) in (e.0, cold_parts m xs e.1)

  or_cold : (xs ys : List Id) → list_any touched (xs ++ ys) ≡ false → (list_any touched xs ≡ false) × (list_any touched ys ≡ false)
  or_cold xs ys h = or_parts (list_any touched xs) (list_any touched ys) (sym (list_any-append touched xs ys) ∙ h)

  below_cold : (n : ℕ) (i q : Id) (b : Bool) → (list_any touched (meaning_to n l q).sources ≡ false → meaning_to n l' q ≡ meaning_to n l q) → list_any touched (cond b (meaning_to n l q) blank).sources ≡ false
      → cond b (meaning_to n l' q) blank ≡ cond b (meaning_to n l q) blank
  below_cold n i q true h c = h c
  below_cold n i q false h c = refl

  cold_step : (n : ℕ) (i : Id) → ((q : Id) → list_any touched (meaning_to n l q).sources ≡ false → meaning_to n l' q ≡ meaning_to n l q)
      → (list_any touched (own_sources (form_at l i)) ≡ false) × (list_any touched (flat_map (λ q. (below (meaning_to n l) i q).sources) (reads (λ q. (below (meaning_to n l) i q).value) (form_at l i))) ≡ false)
      → (form_at l' i ≡ form_at l i) ⊎ (list_any touched (own_sources (form_at l i)) ≡ true) → meaning_to (suc n) l' i ≡ meaning_to (suc n) l i
  cold_step n i h c (inl e) =
      ap (pair_by (below (meaning_to n l') i)) e
      ∙ by_same (below (meaning_to n l) i) (below (meaning_to n l') i) (form_at l i)
      (each_map (λ q. list_any touched (below (meaning_to n l) i q).sources ≡ false) (λ q. below (meaning_to n l') i q ≡ below (meaning_to n l) i q)
      (reads (λ q. (below (meaning_to n l) i q).value) (form_at l i)) (λ q d. below_cold n i q (ltb q.1 i.1) (h q) d) (cold_parts (below (meaning_to n l) i) (reads (λ q. (below (meaning_to n l) i q).value) (form_at l i)) c.1))
  cold_step n i h c (inr t) = absurd (let x : true ≡ false = sym t ∙ c.0 in cc)

  cold_to : (n : ℕ) (i : Id) → list_any touched (meaning_to n l i).sources ≡ false → meaning_to n l' i ≡ meaning_to n l i
  cold_to zero i h = refl
  cold_to (suc n) i h = cold_step n i (λ q. cold_to n q) (or_cold (own_sources (form_at l i)) (flat_map (λ q. (below (meaning_to n l) i q).sources) (reads (λ q. (below (meaning_to n l) i q).value) (form_at l i))) h) (same i)

  pub cold : (i : Id) → list_any touched (meaning l i).sources ≡ false → meaning l' i ≡ meaning l i
  unfolding meaning
  cold i h = cold_to (suc i.1) i h

-- Where only what it does not reach changed, a reference means the same.
module _ (Good : Id → Type 0) (l l' : Look) (same : (i : Id) → Good i → (form_at l' i ≡ form_at l i) × Each Good (parts (form_at l i))) where
  below_good : (n : ℕ) (i q : Id) (b : Bool) → meaning_to n l' q ≡ meaning_to n l q → cond b (meaning_to n l' q) blank ≡ cond b (meaning_to n l q) blank
  below_good n i q b h = ap (λ p. cond b p blank) h

  within_to : (n : ℕ) (i : Id) → Good i → meaning_to n l' i ≡ meaning_to n l i
  within_to zero i g = refl
  within_to (suc n) i g =
      let s = same i g in
      ap (pair_by (below (meaning_to n l') i)) s.0
      ∙ by_same (below (meaning_to n l) i) (below (meaning_to n l') i) (form_at l i)
      (each_read (λ q. below (meaning_to n l') i q ≡ below (meaning_to n l) i q) (λ q. (below (meaning_to n l) i q).value) (form_at l i)
      (each_map Good (λ q. below (meaning_to n l') i q ≡ below (meaning_to n l) i q) (parts (form_at l i)) (λ q d. below_good n i q (ltb q.1 i.1) (within_to n q d)) s.1))

  pub within : (i : Id) → Good i → meaning l' i ≡ meaning l i
  unfolding meaning
  within i g = within_to (suc i.1) i g
