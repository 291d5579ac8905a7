-- Sources whose numbers were given.
use Rattle.std.proofs.Common.{◌≡◌, ◌<◌, ◌≤◌, ℕ, zero, suc, List, [], ◌∷◌, ◌++◌, map, Bool, true, false, ◌||◌, Option, Some, None, refl, sym, ap, ap₂, ◌∙◌, arith}
use Rattle.std.specs.Prelude.{if◌then◌else◌, nat_eq}
use Rattle.gl_base.specs.Names.{at_place, named}
use Rattle.gl_value.specs.Helpers.{Helper, helper_table}
use Rattle.gl_meaning.specs.Scope.{Source, Pair, absent, sources_of, NamedPairs}
use Rattle.gl_meaning.specs.Eval.{takes_first, branch_of, pair_read, helper_pair, after_reading}
use Rattle.gl_plain.specs.Ids.{a_ref, Id, ref}
use Rattle.gl_plain.specs.State.{any_of, Form, constant_form, source_form, property_form, call_form, joined_form, all_form, Names, names_by, row, content, instance_row, block_row, modifier_row, Thing, State, form_pair, thing_pair, pairs_below, pair_of}
use Rattle.gl_naming.specs.Numbered.{number, OwnSource, LastBelow, NumberedThing}

abbrev LowSource : ℕ → Source → Type 0
LowSource n x = (k : ℕ) × (k < n) × (x ≡ number k)

-- all sources have numbers below n
abbrev pub Low : ℕ → List Source → Type 0
Low n [] = Unit {0}
Low n (x ∷ xs) = LowSource n x × Low n xs

pub low_join : (n : ℕ) (xs ys : List Source) → Low n xs → Low n ys → Low n (xs ++ ys)
low_join n [] ys h g = g
low_join n (x ∷ xs) ys h g = (h.0, low_join n xs ys h.1 g)

-- a test of them doesn't depend on other sources
pub low_last : (n : ℕ) (xs : List Source) → Low n xs → LastBelow n (any_of xs)
low_last n [] h t u e = refl
low_last n (x ∷ xs) h t u e = ap₂ (λ a b. a || b) (ap t h.0.2 ∙ (e h.0.0 h.0.1 ∙ ap u (sym h.0.2))) (low_last n xs h.1 t u e)

abbrev LowAll : ℕ → List Pair → Type 0
LowAll n [] = Unit {0}
LowAll n (p ∷ ps) = Low n p.sources × LowAll n ps

low_sources : (n : ℕ) (ps : List Pair) → LowAll n ps → Low n (sources_of ps)
low_sources n [] h = tt
low_sources n (p ∷ ps) h = low_join n p.sources (sources_of ps) h.0 (low_sources n ps h.1)

low_place : (n i : ℕ) (ps : List Pair) → LowAll n ps → Low n (at_place absent i ps).sources
low_place n i [] h = tt
low_place n zero (p ∷ ps) h = h.0
low_place n (suc i) (p ∷ ps) h = low_place n i ps h.1

low_read : (n : ℕ) (b : Option Bool) (h : Helper) (ps : List Pair) (ns : NamedPairs) → LowAll n ps → LowAll n (map (λ m. m.1) ns) → Low n (pair_read b h ps ns).sources
low_read n None h ps ns k l = low_join n (sources_of ps) (sources_of (map (λ m. m.1) ns)) (low_sources n ps k) (low_sources n (map (λ m. m.1) ns) l)
low_read n (Some u) h ps ns k l = by (takes_first u (at_place absent 0 ps).value) where
  by : (b : Bool) → let p : Pair = (if b then at_place absent 1 ps else at_place absent 2 ps) in Low n (after_reading (at_place absent 0 ps) p).sources
  by true = low_join n (at_place absent 0 ps).sources (at_place absent 1 ps).sources (low_place n 0 ps k) (low_place n 1 ps k)
  by false = low_join n (at_place absent 0 ps).sources (at_place absent 2 ps).sources (low_place n 0 ps k) (low_place n 2 ps k)

low_helper : (n : ℕ) (h : Option Helper) (ps : List Pair) (ns : NamedPairs) → LowAll n ps → LowAll n (map (λ m. m.1) ns) → Low n (helper_pair h ps ns).sources
low_helper n None ps ns k l = tt
low_helper n (Some h) ps ns k l = low_read n (branch_of h) h ps ns k l

module _ (n : ℕ) (F : ℕ → Pair) (low : (r : ℕ) → Low n (F r).sources) where
  low_refs : (rs : List ℕ) → LowAll n (map F rs)
  low_refs [] = tt
  low_refs (r ∷ rs) = (low r, low_refs rs)

  low_names : (ns : Names) → LowAll n (map (λ m. m.1) (names_by F ns))
  low_names [] = tt
  low_names (m ∷ ns) = (low m.1, low_names ns)

  -- what a form reads, and itself where it is a source's
  low_form : (r : ℕ) (x : Form) → OwnSource n r x → Low n (form_pair F x).sources
  low_form r (constant_form v) o = tt
  low_form r (source_form x v) o = ((r, o.1, o.0), tt)
  low_form r (property_form i k) o = low i
  low_form r (call_form c rs ns) o = low_helper n (named c helper_table) (map F rs) (names_by F ns) (low_refs rs) (low_names ns)
  low_form r (joined_form rs) o = low_sources n (map F rs) (low_refs rs)
  low_form r (all_form rs) o = low_sources n (map F rs) (low_refs rs)

  low_thing : (r : ℕ) (x : Option Thing) → NumberedThing n r x → Low n (thing_pair F x).sources
  low_thing r None h = tt
  low_thing r (Some (row x)) h = low_form r x.form h.0
  low_thing r (Some (content c)) h = tt
  low_thing r (Some (instance_row i)) h = tt
  low_thing r (Some block_row) h = tt
  low_thing r (Some (modifier_row x)) h = tt

-- what references below m mean reads sources that were given
low_table : (look : Id → Option Thing) (n m : ℕ) → ((r : ℕ) → r < m → NumberedThing n r (look (ref r))) → (q : ℕ) → Low n (pairs_below look m q).sources
low_table look n zero h q = tt
low_table look n (suc m) h q = by (nat_eq q m) (λ r. low_table look n m (λ i lt. h i (omega (arith, lt))) r) where
  by : (b : Bool) → ((r : ℕ) → Low n (pairs_below look m r).sources) → let p : Pair = (if b then thing_pair (pairs_below look m) (look (ref m)) else pairs_below look m q) in Low n p.sources
  by true rest = low_thing n (pairs_below look m) rest m (look (ref m)) (h m (omega arith))
  by false rest = rest q

pub low_pair : (look : Id → Option Thing) (n q : ℕ) → ((r : ℕ) → r < suc q → NumberedThing n r (look (ref r))) → Low n (pair_of look q).sources
low_pair look n q h = low_table look n (suc q) h q

-- so where all are numbered
pub low_pairs : (look : Id → Option Thing) (n : ℕ) → ((r : ℕ) → NumberedThing n r (look (ref r))) → (ids : List ℕ) → Low n (sources_of (map (pair_of look) ids))
low_pairs look n h [] = tt
low_pairs look n h (i ∷ ids) = low_join n (pair_of look i).sources (sources_of (map (pair_of look) ids)) (low_pair look n i (λ r lt. h r)) (low_pairs look n h ids)

-- a thing is numbered also where more numbers were given
pub last_more : (n m : ℕ) → n ≤ m → (last : (Source → Bool) → Bool) → LastBelow n last → LastBelow m last
last_more n m le last h t u e = h t u (λ k lt. e k (omega (arith, lt, le)))

pub numbered_more : (n m r : ℕ) → n ≤ m → (x : Option Thing) → NumberedThing n r x → NumberedThing m r x
numbered_more n m r le None h = tt
numbered_more n m r le (Some (row x)) h = (by x.form h.0, last_more n m le x.last h.1) where
  by : (y : Form) → OwnSource n r y → OwnSource m r y
  by (constant_form v) o = tt
  by (source_form s v) o = (o.0, let i = o.1 in omega (arith, i, le))
  by (property_form i k) o = tt
  by (call_form c rs ns) o = tt
  by (joined_form rs) o = tt
  by (all_form rs) o = tt
numbered_more n m r le (Some (content c)) h = tt
numbered_more n m r le (Some (instance_row i)) h = tt
numbered_more n m r le (Some block_row) h = tt
numbered_more n m r le (Some (modifier_row x)) h = tt

-- all that is kept
abbrev pub Whole : State → Type 0
Whole st = (r : ℕ) → NumberedThing (st.next a_ref) r (st.look (ref r))
