-- What an update evaluates is what is new or stale.
use Rattle.std.proofs.Common.{◌≡◌, ◌<◌, ◌≤◌, ◌+◌, ℕ, suc, List, [], ◌∷◌, ◌++◌, map, Bool, true, false, true≢false, Option, Some, cond, refl, sym, ap, ap₂, ◌∙◌, subst, arith, inl, inr}
use Rattle.std.specs.Prelude.{filter, filter_map, length, not, ◌&&◌, ◌||◌}
use Rattle.std.specs.List.{list_any}
use Rattle.std.proofs.lemmas.Bool.{le-leb, lt-leb}
use Rattle.gl_meaning.specs.App.{App}
use Rattle.gl_meaning.specs.Path.{Path, path_eq}
use Rattle.gl_meaning.specs.Scope.{Source, sources_of}
use Rattle.gl_meaning.specs.Eval.{Store}
use Rattle.gl_meaning.specs.Known.{Among}
use Rattle.gl_meaning.specs.Laws.{NoRepeat, HoldsNoAction}
use Rattle.gl_meaning.specs.Render.{Forest, draw}
use Rattle.gl_meaning.specs.Changes.{Position, positions, Sets, touched, some_touched, stale}
use Rattle.gl_meaning.specs.Work.{work}
use Rattle.gl_meaning.proofs.Equal.{path_means, path_itself, both_left, both_right, both_true}
use Rattle.gl_meaning.proofs.Once.{positions_once}
use Rattle.gl_meaning.proofs.Pieces.{some_same, none_some, any_true}
use Rattle.gl_plain.specs.Ids.{a_ref, Id, ref}
use Rattle.gl_plain.specs.State.{any_of, Thing, State}
use Rattle.gl_plain.specs.Live.{Live, times}
use Rattle.gl_plain.specs.Renew.{last_of, renew_app}
use Rattle.gl_plain.specs.Counts.{is_due}
use Rattle.gl_plain.specs.Machine.{StandsFor, OnlyTouched}
use Rattle.gl_plain.proofs.Moves.{is_old}
use Rattle.gl_plain.proofs.Roots.{updated_stands, ids_are_kept}
use Rattle.gl_plain.proofs.CountStands.{updated_evaluates_due}
use Rattle.gl_turns.specs.Places.{Place, node_place, position_place, item_place, instance_place, modifier_place, path_of, id_of, position_in, places}
use Rattle.gl_turns.specs.Evaluated.{TouchedBy, new_or_stale}
use Rattle.gl_turns.specs.Laws.{EvaluatesNewOrStale, EvaluatedCount}
use Rattle.gl_turns.proofs.Found.{found_from, found_in, among_mapped}
use Rattle.gl_turns.proofs.Listed.{positions_listed}
use Rattle.gl_turns.proofs.Sites.{root_counted}
use Rattle.gl_turns.proofs.Kept.{KeptOne, root_kept}
use Rattle.gl_turns.proofs.Agrees.{kept_sum, read_sum}
use Rattle.gl_turns.proofs.Numbered.{tree_agrees}
use Rattle.gl_turns.proofs.Sources.{touched_is_touched}

is_position : (a : Place) (z : Path × ℕ) → position_in a ≡ Some z → a ≡ position_place z.0 z.1
is_position (position_place p n) z e = ap (λ (y : Path × ℕ). position_place y.0 y.1) (some_same (p, n) z e)
is_position (node_place p n) z e = absurd (none_some z e)
is_position (item_place p n) z e = absurd (none_some z e)
is_position (instance_place p n) z e = absurd (none_some z e)
is_position (modifier_place p n) z e = absurd (none_some z e)

-- Lists

filter_mapped : {A B : Type 0} (f : A → B) (test : B → Bool) (xs : List A) → filter test (map f xs) ≡ map f (filter (λ x. test (f x)) xs)
filter_mapped f test [] = refl
filter_mapped {A} f test (x ∷ xs) = by (test (f x)) (filter_mapped f test xs) where
  by : (b : Bool) → filter test (map f xs) ≡ map f (filter (λ x. test (f x)) xs) → cond b (f x ∷ filter test (map f xs)) (filter test (map f xs)) ≡ map f (cond b (x ∷ filter (λ x. test (f x)) xs) (filter (λ x. test (f x)) xs))
  by true h = ap (λ ys. f x ∷ ys) h
  by false h = h

filter_alike : {A : Type 0} (f g : A → Bool) (xs : List A) → ((x : A) → Among x xs → f x ≡ g x) → filter f xs ≡ filter g xs
filter_alike f g [] h = refl
filter_alike f g (x ∷ xs) h = ap₂ (λ b ys. cond b (x ∷ ys) ys) (h x (inl refl)) (filter_alike f g xs (λ y m. h y (inr m)))

any_alike : (f g : Source → Bool) → ((x : Source) → f x ≡ g x) → (xs : List Source) → any_of xs f ≡ any_of xs g
any_alike f g h [] = refl
any_alike f g h (x ∷ xs) = ap₂ (λ b d. b || d) (h x) (any_alike f g h xs)

pub any_not : {A : Type 0} (test : A → Bool) (xs : List A) → ((x : A) → Among x xs → test x ≡ false) → list_any test xs ≡ false
any_not test [] h = refl
any_not test (x ∷ xs) h = ap₂ (λ b d. b || d) (h x (inl refl)) (any_not test xs (λ y m. h y (inr m)))

any_from : {A : Type 0} (test : A → Bool) (xs : List A) → list_any test xs ≡ true → (x : A) × Among x xs × (test x ≡ true)
any_from test [] e = absurd (true≢false (sym e))
any_from {A} test (x ∷ xs) e = by (test x) refl (any_from test xs) e where
  by : (b : Bool) → test x ≡ b → (list_any test xs ≡ true → (y : A) × Among y xs × (test y ≡ true)) → (b || list_any test xs) ≡ true → (y : A) × Among y (x ∷ xs) × (test y ≡ true)
  by true f rec g = (x, inl refl, f)
  by false f rec g = let h = rec g in (h.0, inr h.1, h.2)

pub length_mapped : {A B : Type 0} (f : A → B) (xs : List A) → length (map f xs) ≡ length xs
length_mapped f [] = refl
length_mapped f (x ∷ xs) = ap suc (length_mapped f xs)

length_joined : {A : Type 0} (xs ys : List A) → length (xs ++ ys) ≡ length xs + length ys
length_joined [] ys = omega arith
length_joined (x ∷ xs) ys = let h = length_joined xs ys in omega (arith, h)

-- Sums of tests

abbrev pub one_if : Bool → ℕ
one_if true = 1
one_if false = 0

is_one : (b : Bool) → 0 < one_if b → b ≡ true
is_one true w = refl
is_one false w = absurd (omega (arith, w))

-- a test of a path and of what was read
abbrev pub Test : Type 0
Test = Path → ((Source → Bool) → Bool) → Bool

abbrev pub counts : Test → Path → ((Source → Bool) → Bool) → ℕ
counts test p g = one_if (test p g)

module _ (look : Id → Option Thing) (test : Test) where
  kept_has : (z : Path × ℕ) (zs : List (Path × ℕ)) → Among z zs → test z.0 (last_of (look (ref z.1))) ≡ true → 0 < kept_sum look (counts test) zs
  kept_has z [] m e = absurd m
  kept_has z (y ∷ ys) (inl q) e = let h : one_if (test y.0 (last_of (look (ref y.1)))) ≡ 1 = ap one_if (subst (λ (u : Path × ℕ). test u.0 (last_of (look (ref u.1))) ≡ true) q e) in omega (arith, h)
  kept_has z (y ∷ ys) (inr m) e = let h = kept_has z ys m e in omega (arith, h)

  kept_from : (zs : List (Path × ℕ)) → 0 < kept_sum look (counts test) zs → (z : Path × ℕ) × Among z zs × (test z.0 (last_of (look (ref z.1))) ≡ true)
  kept_from [] w = absurd (omega (arith, w))
  kept_from (y ∷ ys) w = by (test y.0 (last_of (look (ref y.1)))) refl (kept_from ys) w where
    by : (b : Bool) → test y.0 (last_of (look (ref y.1))) ≡ b → (0 < kept_sum look (counts test) ys → (z : Path × ℕ) × Among z ys × (test z.0 (last_of (look (ref z.1))) ≡ true)) → 0 < one_if b + kept_sum look (counts test) ys
        → (z : Path × ℕ) × Among z (y ∷ ys) × (test z.0 (last_of (look (ref z.1))) ≡ true)
    by true f rec u = (y, inl refl, f)
    by false f rec u = let h = rec (omega (arith, u)) in (h.0, inr h.1, h.2)

module _ (test : Test) where
  read_has : (o : Position) (qs : List Position) → Among o qs → test o.path (any_of (sources_of o.pairs)) ≡ true → 0 < read_sum (counts test) qs
  read_has o [] m e = absurd m
  read_has o (y ∷ ys) (inl q) e = let h : one_if (test y.path (any_of (sources_of y.pairs))) ≡ 1 = ap one_if (subst (λ (u : Position). test u.path (any_of (sources_of u.pairs)) ≡ true) q e) in omega (arith, h)
  read_has o (y ∷ ys) (inr m) e = let h = read_has o ys m e in omega (arith, h)

  read_from : (qs : List Position) → 0 < read_sum (counts test) qs → (o : Position) × Among o qs × (test o.path (any_of (sources_of o.pairs)) ≡ true)
  read_from [] w = absurd (omega (arith, w))
  read_from (y ∷ ys) w = by (test y.path (any_of (sources_of y.pairs))) refl (read_from ys) w where
    by : (b : Bool) → test y.path (any_of (sources_of y.pairs)) ≡ b → (0 < read_sum (counts test) ys → (o : Position) × Among o ys × (test o.path (any_of (sources_of o.pairs)) ≡ true)) → 0 < one_if b + read_sum (counts test) ys
        → (o : Position) × Among o (y ∷ ys) × (test o.path (any_of (sources_of o.pairs)) ≡ true)
    by true f rec u = (y, inl refl, f)
    by false f rec u = let h = rec (omega (arith, u)) in (h.0, inr h.1, h.2)

pub count_kept : (look : Id → Option Thing) (test : Path → Bool) (zs : List (Path × ℕ)) → kept_sum look (counts (λ p g. test p)) zs ≡ length (filter (λ z. test z.0) zs)
count_kept look test [] = refl
count_kept look test (z ∷ zs) = by (test z.0) (count_kept look test zs) where
  by : (b : Bool) → kept_sum look (counts (λ p g. test p)) zs ≡ length (filter (λ z. test z.0) zs) → one_if b + kept_sum look (counts (λ p g. test p)) zs ≡ length (cond b (z ∷ filter (λ z. test z.0) zs) (filter (λ z. test z.0) zs))
  by true h = omega (arith, h)
  by false h = omega (arith, h)

pub count_read : (test : Path → Bool) (qs : List Position) → read_sum (counts (λ p g. test p)) qs ≡ length (filter (λ q. test q.path) qs)
count_read test [] = refl
count_read test (z ∷ zs) = by (test z.path) (count_read test zs) where
  by : (b : Bool) → read_sum (counts (λ p g. test p)) zs ≡ length (filter (λ z. test z.path) zs) → one_if b + read_sum (counts (λ p g. test p)) zs ≡ length (cond b (z ∷ filter (λ z. test z.path) zs) (filter (λ z. test z.path) zs))
  by true h = omega (arith, h)
  by false h = omega (arith, h)

-- two positions of one path are one
same_position : (o y : Position) (qs : List Position) → NoRepeat (map (λ (q : Position). q.path) qs) → Among o qs → Among y qs → o.path ≡ y.path → o ≡ y
same_position o y [] d m n e = absurd m
same_position o y (q ∷ qs) d (inl a) (inl b) e = a ∙ sym b
same_position o y (q ∷ qs) d (inl a) (inr b) e = absurd (d.0 (subst (λ p. Among p (map (λ (q : Position). q.path) qs)) (sym e ∙ ap (λ (q : Position). q.path) a) (among_mapped (λ (q : Position). q.path) y qs b)))
same_position o y (q ∷ qs) d (inr a) (inl b) e = absurd (d.0 (subst (λ p. Among p (map (λ (q : Position). q.path) qs)) (e ∙ ap (λ (q : Position). q.path) b) (among_mapped (λ (q : Position). q.path) o qs a)))
same_position o y (q ∷ qs) d (inr a) (inr b) e = same_position o y qs d.1 a b e

module _ (app : App) (σ τ : Store) (sets : Sets) (st : State) (l : Live) (h : StandsFor app σ τ st l) (cells : OnlyTouched app σ τ st) (by_sets : TouchedBy sets st) where
  abbrev old : Forest
  old = draw app σ

  abbrev new : Forest
  new = draw app τ

  abbrev olds : List (Path × ℕ)
  olds = filter_map position_in (places [] l)

  abbrev news : List (Path × ℕ)
  news = filter_map position_in (places [] (renew_app app τ l st).0)

  abbrev at_end : Source → Bool
  at_end x = (renew_app app τ l st).1.touched x

  now : StandsFor app τ τ (renew_app app τ l st).1 (renew_app app τ l st).0
  now = updated_stands app σ τ st l h cells

  old_sums : (test : Test) → kept_sum st.look (counts test) olds ≡ read_sum (counts test) (positions old)
  old_sums test = (tree_agrees app σ τ st l h).0.positions (counts test)

  new_sums : (test : Test) → kept_sum (renew_app app τ l st).1.look (counts test) news ≡ read_sum (counts test) (positions new)
  new_sums test = (tree_agrees app τ τ (renew_app app τ l st).1 (renew_app app τ l st).0 (updated_stands app σ τ st l h cells)).0.positions (counts test)

  pub kept : (a : Place) → Among a (places [] (renew_app app τ l st).0) → KeptOne st.next (places [] l) a
  kept = root_kept st.next l (renew_app app τ l st).0 (tree_agrees app σ τ st l h).1 (tree_agrees app τ τ (renew_app app τ l st).1 (renew_app app τ l st).0 (updated_stands app σ τ st l h cells)).1 (ids_are_kept app σ τ st l h cells)

  abbrev at_path : Path → Test
  at_path p q g = path_eq p q

  -- a path is in the new rendering where the new tree has a position there, and in the old one where the old tree has
  in_new : (z : Path × ℕ) → Among z news → list_any (λ o. path_eq z.0 o.path) (positions new) ≡ true
  in_new z m =
      let w = kept_has (renew_app app τ l st).1.look (at_path z.0) z news m (path_itself z.0) in
      let e = new_sums (at_path z.0) in
      let o = read_from (at_path z.0) (positions new) (omega (arith, w, e)) in
      any_true (λ o. path_eq z.0 o.path) o.0 (positions new) o.1 o.2

  pub in_old : (z : Path × ℕ) → Among z olds → list_any (λ o. path_eq z.0 o.path) (positions old) ≡ true
  in_old z m =
      let w = kept_has st.look (at_path z.0) z olds m (path_itself z.0) in
      let e = old_sums (at_path z.0) in
      let o = read_from (at_path z.0) (positions old) (omega (arith, w, e)) in
      any_true (λ o. path_eq z.0 o.path) o.0 (positions old) o.1 o.2

  pub not_in_old : (p : Path) → ((z : Path × ℕ) → Among z olds → p ≡ z.0 → ⊥) → list_any (λ o. path_eq p o.path) (positions old) ≡ false
  not_in_old p d = by (list_any (λ o. path_eq p o.path) (positions old)) refl where
    by : (b : Bool) → list_any (λ o. path_eq p o.path) (positions old) ≡ b → list_any (λ o. path_eq p o.path) (positions old) ≡ false
    by false e = e
    by true e =
        let o = any_from (λ o. path_eq p o.path) (positions old) e in
        let w = read_has (at_path p) o.0 (positions old) o.1 o.2 in
        let f = old_sums (at_path p) in
        let z = kept_from st.look (at_path p) olds (omega (arith, w, f)) in
        absurd (d z.0 z.1 (path_means p z.0.0 z.2))

  abbrev is_touched : Path → Test
  is_touched p q g = path_eq p q && g at_end

  abbrev is_cold : Path → Test
  is_cold p q g = path_eq p q && not (g at_end)

  abbrev stale_there : Path → Bool
  stale_there p = list_any (λ q. path_eq p q.path && some_touched old new sets q.pairs) (positions old)

  read_touched : (o : Position) → any_of (sources_of o.pairs) at_end ≡ some_touched old new sets o.pairs
  read_touched o = any_alike at_end (touched old new sets) (touched_is_touched app σ τ sets st l h cells by_sets) (sources_of o.pairs)

  -- the last sources of an old position are touched where the meaning says that it is stale
  stale_old : (z : Path × ℕ) → Among z olds → last_of (st.look (ref z.1)) at_end ≡ stale_there z.0
  stale_old z m = by (last_of (st.look (ref z.1)) at_end) refl where
    cold_all : (o : Position) → Among o (positions old) → (path_eq z.0 o.path && not (any_of (sources_of o.pairs) at_end)) ≡ true → (y : Position) → Among y (positions old) → (path_eq z.0 y.path && some_touched old new sets y.pairs) ≡ false
    cold_all o n e y k = by' (path_eq z.0 y.path) refl where
      cold : some_touched old new sets o.pairs ≡ false
      cold = by2 (any_of (sources_of o.pairs) at_end) refl where
        by2 : (b : Bool) → any_of (sources_of o.pairs) at_end ≡ b → some_touched old new sets o.pairs ≡ false
        by2 false f = sym (read_touched o) ∙ f
        by2 true f = absurd (true≢false (sym (both_right (path_eq z.0 o.path) _ e) ∙ ap not f))

      by' : (b : Bool) → path_eq z.0 y.path ≡ b → (b && some_touched old new sets y.pairs) ≡ false
      by' false f = refl
      by' true f =
          let q : o ≡ y = same_position o y (positions old) (positions_once app σ) n k (sym (path_means z.0 o.path (both_left _ _ e)) ∙ path_means z.0 y.path f) in
          ap (λ (u : Position). some_touched old new sets u.pairs) (sym q) ∙ cold

    by : (b : Bool) → last_of (st.look (ref z.1)) at_end ≡ b → last_of (st.look (ref z.1)) at_end ≡ stale_there z.0
    by true e =
        let w = kept_has st.look (is_touched z.0) z olds m (both_true _ _ (path_itself z.0) e) in
        let f = old_sums (is_touched z.0) in
        let o = read_from (is_touched z.0) (positions old) (omega (arith, w, f)) in
        e ∙ sym (any_true (λ q. path_eq z.0 q.path && some_touched old new sets q.pairs) o.0 (positions old) o.1 (ap (λ b. path_eq z.0 o.0.path && b) (sym (read_touched o.0)) ∙ o.2))
    by false e =
        let w = kept_has st.look (is_cold z.0) z olds m (both_true _ _ (path_itself z.0) (ap not e)) in
        let f = old_sums (is_cold z.0) in
        let o = read_from (is_cold z.0) (positions old) (omega (arith, w, f)) in
        e ∙ sym (any_not (λ q. path_eq z.0 q.path && some_touched old new sets q.pairs) (positions old) (cold_all o.0 o.1 o.2))

  -- a position is due where it is new or stale
  pub due_is : (z : Path × ℕ) → Among z news → is_due st at_end z.1 ≡ new_or_stale old new sets z.0
  due_is z m = let f = found_from position_in z (places [] (renew_app app τ l st).0) m in by f.0 (is_position f.0 z f.2) (kept f.0 f.1) where
    absent : (a : Place) → a ≡ position_place z.0 z.1 → ((b : Place) → Among b (places [] l) → path_of a ≡ path_of b → ⊥) → (y : Path × ℕ) → Among y olds → z.0 ≡ y.0 → ⊥
    absent a e other y n q = let f = found_from position_in y (places [] l) n in other f.0 f.1 (ap path_of e ∙ (q ∙ sym (ap path_of (is_position f.0 y f.2))))

    by : (a : Place) → a ≡ position_place z.0 z.1 → KeptOne st.next (places [] l) a → is_due st at_end z.1 ≡ new_or_stale old new sets z.0
    by a e (inl n) =
        let n' = subst (λ b. Among b (places [] l)) e n in
        let lt = is_old st (λ q. times q l) h.owned (ref z.1) (root_counted l (tree_agrees app σ τ st l h).1 (position_place z.0 z.1) n') in
        let k = found_in position_in z (position_place z.0 z.1) (places [] l) refl n' in
        ap (λ b. b || last_of (st.look (ref z.1)) at_end) (lt-leb (st.next a_ref) z.1 lt)
        ∙ (stale_old z k
        ∙ (and_true (stale_there z.0) (in_new z m)
        ∙ ap (λ b. not b || stale old new sets z.0) (sym (in_old z k)))) where
          and_true : (d : Bool) → list_any (λ q. path_eq z.0 q.path) (positions new) ≡ true → d ≡ (d && list_any (λ q. path_eq z.0 q.path) (positions new))
          and_true true g = sym g
          and_true false g = refl
    by a e (inr n) =
        let le = subst (λ b. st.next (id_of b).kind ≤ (id_of b).num) e n.0 in
        ap (λ b. b || last_of (st.look (ref z.1)) at_end) (le-leb (st.next a_ref) z.1 le) ∙ ap (λ b. not b || stale old new sets z.0) (sym (not_in_old z.0 (absent a e n.1)))

  pub evaluates : HoldsNoAction σ → (renew_app app τ l st).1.evaluated ≡ st.evaluated ++ map (λ q. q.1) (filter (λ q. new_or_stale old new sets q.0) news)
  evaluates plain =
      updated_evaluates_due app σ τ st l h plain
      ∙ ap (λ ns. st.evaluated ++ ns)
      (ap (filter (is_due st at_end)) (sym (positions_listed [] (renew_app app τ l st).0))
      ∙ (filter_mapped (λ (q : Path × ℕ). q.1) (is_due st at_end) news ∙ ap (map (λ (q : Path × ℕ). q.1)) (filter_alike (λ q. is_due st at_end q.1) (λ q. new_or_stale old new sets q.0) news due_is)))

  pub evaluated_as_many : HoldsNoAction σ → length (renew_app app τ l st).1.evaluated ≡ length st.evaluated + (work old new sets).evaluated
  evaluated_as_many plain =
      let test : Path → Bool = new_or_stale old new sets in
      let a = ap length (evaluates plain) in
      let b = length_joined st.evaluated (map (λ (q : Path × ℕ). q.1) (filter (λ q. test q.0) news)) in
      let d = length_mapped (λ (q : Path × ℕ). q.1) (filter (λ q. test q.0) news) in
      let e = count_kept (renew_app app τ l st).1.look test news in
      let f = new_sums (λ p g. test p) in
      let g = count_read test (positions new) in
      omega (arith, a, b, d, e, f, g)

pub evaluates_new_or_stale : EvaluatesNewOrStale
evaluates_new_or_stale app σ τ sets st l h cells s plain = evaluates app σ τ sets st l h cells s plain

pub evaluated_count : EvaluatedCount
evaluated_count app σ τ sets st l h cells s plain = evaluated_as_many app σ τ sets st l h cells s plain
