-- The items moved in a turn are those moved in each list.
use Rattle.std.proofs.Common.{◌≡◌, ◌+◌, ℕ, List, [], ◌∷◌, Bool, true, false, true≢false, Option, Some, None, cond, refl, sym, ap, ap₂, ◌∙◌, subst, arith, inl, inr}
use Rattle.std.specs.Prelude.{filter, filter_map, length, nat_lt, ◌&&◌, ◌||◌, if◌then◌else◌}
use Rattle.std.specs.List.{cons_option}
use Rattle.gl_meaning.specs.Path.{Path, path_eq}
use Rattle.gl_meaning.specs.Known.{Among}
use Rattle.gl_meaning.specs.Laws.{NoRepeat}
use Rattle.gl_meaning.specs.Changes.{Item, item_of}
use Rattle.gl_meaning.specs.Work.{Kept, list_path, kept_one, is_passed}
use Rattle.gl_meaning.proofs.Equal.{path_means, path_itself}
use Rattle.gl_meaning.proofs.Pieces.{some_same, none_some}
use Rattle.gl_turns.specs.Moved.{of_list, kept_between, moved_between, moved_in}
use Rattle.gl_turns.specs.Laws.{MovedByList}
use Rattle.gl_turns.proofs.Found.{path_other}

path_swapped : (p q : Path) → path_eq p q ≡ path_eq q p
path_swapped p q = by (path_eq p q) refl where
  by : (b : Bool) → path_eq p q ≡ b → path_eq p q ≡ path_eq q p
  by true e = e ∙ sym (subst (λ r. path_eq q r ≡ true) (sym (path_means p q e)) (path_itself q))
  by false e = e ∙ sym (path_other q p (λ f. true≢false (sym (subst (λ r. path_eq p r ≡ true) (sym f) (path_itself p)) ∙ e)))

-- An item of a list is looked up among those of the list.
item_filtered : (p q : Path) (is : List Item) → path_eq (list_path p) q ≡ true → item_of p (of_list q is) ≡ item_of p is
item_filtered p q [] e = refl
item_filtered p q (i ∷ is) e = by (path_eq p i.path) refl (path_eq (list_path i.path) q) refl (item_filtered p q is e) where
  by : (b : Bool) → path_eq p i.path ≡ b → (d : Bool) → path_eq (list_path i.path) q ≡ d → item_of p (of_list q is) ≡ item_of p is → item_of p (cond d (i ∷ of_list q is) (of_list q is)) ≡ (if b then Some i else item_of p is)
  by true f true g h = ap (λ c. if c then Some i else item_of p (of_list q is)) f
  by true f false g h = absurd (true≢false (sym (subst (λ r. path_eq (list_path r) q ≡ true) (path_means p i.path f) e) ∙ g))
  by false f true g h = ap (λ c. if c then Some i else item_of p (of_list q is)) f ∙ h
  by false f false g h = h

in_list : Path → Kept → Bool
in_list q k = path_eq (list_path k.path) q

kept_path : (i : Item) (o : Option Item) (k : Kept) → kept_one i o ≡ Some k → k.path ≡ i.path
kept_path i None k e = absurd (none_some k e)
kept_path i (Some j) k e = ap (λ (y : Kept). y.path) (sym (some_same (record { path = i.path; before = j.index; after = i.index }) k e))

-- What persists in a list is what persists, of the list.
kept_filtered : (q : Path) (old new : List Item) → kept_between (of_list q old) (of_list q new) ≡ filter (in_list q) (kept_between old new)
unfolding in_list
kept_filtered q old [] = refl
kept_filtered q old (i ∷ is) = by (path_eq (list_path i.path) q) refl (kept_filtered q old is) where
  one : (b : Bool) → path_eq (list_path i.path) q ≡ b → (o : Option Item) → (rest : List Kept) → cond b (cons_option (kept_one i o) (filter (in_list q) rest)) (filter (in_list q) rest) ≡ filter (in_list q) (cons_option (kept_one i o) rest)
  one true e None rest = refl
  one false e None rest = refl
  one true e (Some j) rest = sym (ap (λ c. cond c (record { path = i.path; before = j.index; after = i.index } ∷ filter (in_list q) rest) (filter (in_list q) rest)) e)
  one false e (Some j) rest = sym (ap (λ c. cond c (record { path = i.path; before = j.index; after = i.index } ∷ filter (in_list q) rest) (filter (in_list q) rest)) e)

  by : (b : Bool) → path_eq (list_path i.path) q ≡ b → kept_between (of_list q old) (of_list q is) ≡ filter (in_list q) (kept_between old is)
      → filter_map (λ j. kept_one j (item_of j.path (of_list q old))) (cond b (i ∷ of_list q is) (of_list q is)) ≡ filter (in_list q) (cons_option (kept_one i (item_of i.path old)) (kept_between old is))
  by true e h =
      ap₂ cons_option (ap (kept_one i) (item_filtered i.path q old e)) h ∙ one true e (item_of i.path old) (kept_between old is)
  by false e h = h ∙ one false e (item_of i.path old) (kept_between old is)

-- Only those of its list decide whether an item is passed.
passed_filtered : (q : Path) (ks : List Kept) (k : Kept) → path_eq (list_path k.path) q ≡ true → is_passed (filter (in_list q) ks) k ≡ is_passed ks k
unfolding in_list
passed_filtered q [] k e = refl
passed_filtered q (o ∷ os) k e = by (path_eq (list_path o.path) q) refl (passed_filtered q os k e) where
  by : (b : Bool) → path_eq (list_path o.path) q ≡ b → is_passed (filter (in_list q) os) k ≡ is_passed os k → is_passed (cond b (o ∷ filter (in_list q) os) (filter (in_list q) os)) k ≡ is_passed (o ∷ os) k
  by true f h = ap (λ c. (path_eq (list_path o.path) (list_path k.path) && (nat_lt o.after k.after && nat_lt k.before o.before)) || c) h
  by false f h =
      h ∙ ap (λ c. (c && (nat_lt o.after k.after && nat_lt k.before o.before)) || is_passed os k) (sym (ap (path_eq (list_path o.path)) (path_means (list_path k.path) q e) ∙ f))

-- Counting

abbrev one_if : Bool → ℕ
one_if true = 1
one_if false = 0

count : (Kept → Bool) → List Kept → ℕ
count f [] = 0
count f (k ∷ ks) = one_if (f k) + count f ks

is_count : (f : Kept → Bool) (ks : List Kept) → length (filter f ks) ≡ count f ks
unfolding count
is_count f [] = refl
is_count f (k ∷ ks) = by (f k) (is_count f ks) where
  by : (b : Bool) → length (filter f ks) ≡ count f ks → length (cond b (k ∷ filter f ks) (filter f ks)) ≡ one_if b + count f ks
  by true h = omega (arith, h)
  by false h = omega (arith, h)

-- of those that pass one test, those that pass another
count_both : (f g h : Kept → Bool) (ks : List Kept) → ((k : Kept) → g k ≡ true → f k ≡ h k) → count f (filter g ks) ≡ count (λ k. g k && h k) ks
unfolding count
count_both f g h [] e = refl
count_both f g h (k ∷ ks) e = by (g k) refl (count_both f g h ks e) where
  by : (b : Bool) → g k ≡ b → count f (filter g ks) ≡ count (λ k. g k && h k) ks → count f (cond b (k ∷ filter g ks) (filter g ks)) ≡ one_if (b && h k) + count (λ k. g k && h k) ks
  by true d i = ap₂ (λ x y. x + y) (ap one_if (e k d)) i
  by false d i = omega (arith, i)

paths_in : Path → List Path → ℕ
paths_in p [] = 0
paths_in p (q ∷ qs) = one_if (path_eq p q) + paths_in p qs

none_in : (p : Path) (qs : List Path) → (Among p qs → ⊥) → paths_in p qs ≡ 0
unfolding paths_in
none_in p [] d = refl
none_in p (q ∷ qs) d = let a = ap one_if (path_other p q (λ e. d (inl e))) in let b = none_in p qs (λ m. d (inr m)) in omega (arith, a, b)

one_in : (p : Path) (qs : List Path) → NoRepeat qs → Among p qs → paths_in p qs ≡ 1
unfolding paths_in
one_in p [] d m = absurd m
one_in p (q ∷ qs) d (inl e) = let a = ap one_if (subst (λ r. path_eq p r ≡ true) e (path_itself p)) in let b = none_in p qs (λ m. d.0 (subst (λ r. Among r qs) e m)) in omega (arith, a, b)
one_in p (q ∷ qs) d (inr m) = let a = ap one_if (path_other p q (λ e. d.0 (subst (λ r. Among r qs) e m))) in let b = one_in p qs d.1 m in omega (arith, a, b)

-- the sum over the lists, for one more item
by_lists : (f : Kept → Bool) (ks : List Kept) (qs : List Path) → ℕ
by_lists f ks [] = 0
by_lists f ks (q ∷ qs) = count (λ k. path_eq (list_path k.path) q && f k) ks + by_lists f ks qs

lists_none : (f : Kept → Bool) (qs : List Path) → by_lists f [] qs ≡ 0
unfolding by_lists count
lists_none f [] = refl
lists_none f (q ∷ qs) = let h = lists_none f qs in omega (arith, h)

lists_more : (f : Kept → Bool) (k : Kept) (ks : List Kept) (qs : List Path) → (b : Bool) → f k ≡ b → by_lists f (k ∷ ks) qs ≡ (if b then paths_in (list_path k.path) qs else 0) + by_lists f ks qs
unfolding by_lists count paths_in
lists_more f k ks [] true e = omega arith
lists_more f k ks [] false e = omega arith
lists_more f k ks (q ∷ qs) true e =
    let h = lists_more f k ks qs true e in
    let a : one_if (path_eq (list_path k.path) q && f k) ≡ one_if (path_eq (list_path k.path) q) = ap (λ b. one_if (path_eq (list_path k.path) q && b)) e ∙ ap one_if (with_true (path_eq (list_path k.path) q)) in omega (arith, h, a) where
      with_true : (b : Bool) → (b && true) ≡ b
      with_true true = refl
      with_true false = refl
lists_more f k ks (q ∷ qs) false e =
    let h = lists_more f k ks qs false e in
    let a : one_if (path_eq (list_path k.path) q && f k) ≡ 0 = ap (λ b. one_if (path_eq (list_path k.path) q && b)) e ∙ ap one_if (with_false (path_eq (list_path k.path) q)) in omega (arith, h, a) where
      with_false : (b : Bool) → (b && false) ≡ false
      with_false true = refl
      with_false false = refl

all_lists : (f : Kept → Bool) (ks : List Kept) (qs : List Path) → NoRepeat qs → ((k : Kept) → Among k ks → Among (list_path k.path) qs) → by_lists f ks qs ≡ count f ks
unfolding count
all_lists f [] qs d m = lists_none f qs
all_lists f (k ∷ ks) qs d m = by (f k) (lists_more f k ks qs (f k) refl) (all_lists f ks qs d (λ y n. m y (inr n))) where
  by : (b : Bool) → by_lists f (k ∷ ks) qs ≡ (if b then paths_in (list_path k.path) qs else 0) + by_lists f ks qs → by_lists f ks qs ≡ count f ks → by_lists f (k ∷ ks) qs ≡ one_if b + count f ks
  by true h i = let o = one_in (list_path k.path) qs d (m k (inl refl)) in omega (arith, h, i, o)
  by false h i = omega (arith, h, i)

-- the lists one by one
each_list : (old new : List Item) (qs : List Path) → moved_in old new qs ≡ by_lists (is_passed (kept_between old new)) (kept_between old new) qs
unfolding by_lists in_list
each_list old new [] = refl
each_list old new (q ∷ qs) = ap₂ (λ a b. a + b) here (each_list old new qs) where
  ks : List Kept
  ks = kept_between old new

  here : moved_between (of_list q old) (of_list q new) ≡ count (λ k. path_eq (list_path k.path) q && is_passed (kept_between old new) k) (kept_between old new)
  here =
      ap (λ xs. length (filter (is_passed xs) xs)) (kept_filtered q old new)
      ∙ (is_count (is_passed (filter (in_list q) (kept_between old new))) (filter (in_list q) (kept_between old new))
      ∙ count_both (is_passed (filter (in_list q) (kept_between old new))) (in_list q) (is_passed (kept_between old new)) (kept_between old new) (λ k e. passed_filtered q (kept_between old new) k e))

kept_from : (old new : List Item) (k : Kept) → Among k (kept_between old new) → (i : Item) × Among i new × (k.path ≡ i.path)
kept_from old new k m = let f = Rattle.gl_turns.proofs.Found.found_from (λ (i : Item). kept_one i (item_of i.path old)) k new m in (f.0, f.1, kept_path f.0 (item_of f.0.path old) k f.2)

pub moved_by_list : MovedByList
moved_by_list old new qs d m =
    is_count (is_passed (kept_between old new)) (kept_between old new)
    ∙ sym (each_list old new qs ∙ all_lists (is_passed (kept_between old new)) (kept_between old new) qs d (λ k n. let f = kept_from old new k n in subst (λ p. Among (list_path p) qs) (sym f.2) (m f.0 f.1)))
