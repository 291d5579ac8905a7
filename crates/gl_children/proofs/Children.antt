-- The children of nodes, beside those of the rendering.
use Rattle.std.proofs.Common.{◌≡◌, ℕ, ◌<◌, ◌≤◌, List, [], ◌∷◌, ◌++◌, map, Bool, true, false, Option, Some, None, refl, sym, ◌∙◌, ap, ap₂, subst, arith, inl, inr}
use Rattle.std.specs.Prelude.{◌==◌, if◌then◌else◌}
use Rattle.std.proofs.lemmas.List.{map-append}
use Rattle.std.proofs.lemmas.Bool.Decides.{Decides-eqb}
use Rattle.gl_meaning.specs.App.{App}
use Rattle.gl_meaning.specs.Eval.{Store}
use Rattle.gl_meaning.specs.Known.{Among}
use Rattle.gl_meaning.specs.Laws.{NoRepeat}
use Rattle.gl_meaning.specs.Path.{Path, path_eq}
use Rattle.gl_meaning.specs.Render.{draw}
use Rattle.gl_meaning.proofs.Once.{nodes_once}
use Rattle.gl_plain.specs.Ids.{Id, node, occurs}
use Rattle.gl_plain.specs.State.{Content, Thing, State}
use Rattle.gl_plain.specs.Live.{Live}
use Rattle.gl_plain.specs.Counts.{nodes_of}
use Rattle.gl_plain.specs.Machine.{StandsFor}
use Rattle.gl_plain.proofs.CountOnce.{each_stands_once}
use Rattle.gl_plain.proofs.Moves.{hit_self}
use Rattle.gl_plain.proofs.Roots.{updated_stands}
use Rattle.gl_plain.proofs.Syncs.{path-Decides}
use Rattle.gl_naming.specs.Renamed.{state_with}
use Rattle.gl_machine.specs.Shape.{Nest, end, tree, map_nest, in_order, placed_nest, forest_nest}
use Rattle.gl_machine.specs.UpdateLaws.{kept_content, drawn_content}
use Rattle.gl_machine.proofs.NestShown.{nest_is_drawn}
use Rattle.gl_machine.proofs.Nests.{nest_is_ordered, nest_is_placed, nest_has_nodes}
use Rattle.gl_children.specs.Children.{tops, kids_where, placed_children, drawn_children}
use Rattle.gl_children.specs.Laws.{ChildrenHavePlaces, TopIsDrawn, ChildrenAreDrawn, UpdatedChildren, ChildrenBy}

-- Look-ups in nests

module _ {A B : Type 0} (f : A → B) where
  tops_map : (t : Nest A) → tops (map_nest f t) ≡ map f (tops t)
  tops_map end = refl
  tops_map (tree n k r) = ap (λ ys. f n ∷ ys) (tops_map r)

  chosen_map : (b : Bool) (xs : List A) → (if b then map f xs else []) ≡ map f (if b then xs else [])
  chosen_map true xs = refl
  chosen_map false xs = refl

  kids_map : (p : B → Bool) (t : Nest A) → kids_where p (map_nest f t) ≡ map f (kids_where (λ x. p (f x)) t)
  kids_map p end = refl
  kids_map p (tree n k r) =
      let q : A → Bool = λ x. p (f x) in
      ap₂ (λ xs ys. xs ++ ys) (ap (λ xs. if p (f n) then xs else []) (tops_map k) ∙ chosen_map (p (f n)) (tops k))
      (ap₂ (λ xs ys. xs ++ ys) (kids_map p k) (kids_map p r) ∙ sym (map-append f (kids_where q k) (kids_where q r)))
      ∙ sym (map-append f (if p (f n) then tops k else []) (kids_where q k ++ kids_where q r))

  order_map : (t : Nest A) → in_order (map_nest f t) ≡ map f (in_order t)
  order_map end = refl
  order_map (tree n k r) = ap (λ ys. f n ∷ ys) (ap₂ (λ xs ys. xs ++ ys) (order_map k) (order_map r) ∙ sym (map-append f (in_order k) (in_order r)))

among_left : {A : Type 0} (x : A) (xs ys : List A) → Among x xs → Among x (xs ++ ys)
among_left x [] ys m = absurd m
among_left x (y ∷ xs) ys (inl e) = inl e
among_left x (y ∷ xs) ys (inr m) = inr (among_left x xs ys m)

among_right : {A : Type 0} (x : A) (xs ys : List A) → Among x ys → Among x (xs ++ ys)
among_right x [] ys m = m
among_right x (y ∷ xs) ys m = inr (among_right x xs ys m)

among_map : {A B : Type 0} (f : A → B) (x : A) (xs : List A) → Among x xs → Among (f x) (map f xs)
among_map f x [] m = m
among_map f x (y ∷ xs) (inl e) = inl (ap f e)
among_map f x (y ∷ xs) (inr m) = inr (among_map f x xs m)

-- tests that tell the same of each node find the same
kids_same : {A : Type 0} (p q : A → Bool) (t : Nest A) → ((x : A) → Among x (in_order t) → p x ≡ q x) → kids_where p t ≡ kids_where q t
kids_same p q end h = refl
kids_same p q (tree n k r) h =
    ap₂ (λ xs ys. xs ++ ys) (ap (λ b. if b then tops k else []) (h n (inl refl)))
    (ap₂ (λ xs ys. xs ++ ys) (kids_same p q k (λ x m. h x (inr (among_left x (in_order k) (in_order r) m)))) (kids_same p q r (λ x m. h x (inr (among_right x (in_order k) (in_order r) m)))))

-- where what f gives stands once, it tells which one it is
told_by : {A B : Type 0} (f : A → B) (xs : List A) → NoRepeat (map f xs) → (x y : A) → Among x xs → Among y xs → f x ≡ f y → x ≡ y
told_by f [] h x y m k e = absurd m
told_by f (z ∷ xs) h x y (inl a) (inl b) e = a ∙ sym b
told_by f (z ∷ xs) h x y (inl a) (inr k) e = absurd (h.0 (subst (λ i. Among i (map f xs)) (sym e ∙ ap f a) (among_map f y xs k)))
told_by f (z ∷ xs) h x y (inr m) (inl b) e = absurd (h.0 (subst (λ i. Among i (map f xs)) (e ∙ ap f b) (among_map f x xs m)))
told_by f (z ∷ xs) h x y (inr m) (inr k) e = told_by f xs h.1 x y m k e

among_counts : (n : ℕ) (ns : List ℕ) → Among n ns → 0 < occurs (node n) (map node ns)
among_counts n [] m = absurd m
among_counts n (k ∷ ns) (inl e) = let i = subst (λ j. 0 < Rattle.gl_plain.specs.Ids.hit (node n) (node j)) e (hit_self (node n)) in omega (arith, i)
among_counts n (k ∷ ns) (inr m) = let i = among_counts n ns m in omega (arith, i)

once_all : (ns : List ℕ) → ((n : ℕ) → occurs (node n) (map node ns) ≤ 1) → NoRepeat ns
once_all [] h = tt
once_all (n ∷ ns) h = (
  λ m. let i = h n in let j = among_counts n ns m in let k = hit_self (node n) in omega (arith, i, j, k),
  once_all ns (λ k. let i = h k in omega (arith, i)),
)

same_tests : (a b : Bool) → (a ≡ true → b ≡ true) → (b ≡ true → a ≡ true) → a ≡ b
same_tests true true f g = refl
same_tests false false f g = refl
same_tests true false f g = sym (f refl)
same_tests false true f g = g refl

-- Trees

pub children_have_places : ChildrenHavePlaces
children_have_places l None = sym (tops_map (λ x. x.1) (placed_nest [] l)) ∙ ap tops (nest_is_placed l)
children_have_places l (Some n) = sym (kids_map (λ (x : Path × ℕ). x.1) (λ i. n == i) (placed_nest [] l)) ∙ ap (kids_where (λ i. n == i)) (nest_is_placed l)

pub top_is_drawn : TopIsDrawn
top_is_drawn app τ st l s =
    sym (tops_map (kept_content st.look) (placed_nest [] l)) ∙ (ap tops (nest_is_drawn app τ st l s) ∙ tops_map drawn_content (forest_nest (draw app τ)))

module _ (app : App) (τ : Store) (st : State) (l : Live) (s : StandsFor app τ τ st l) where
  abbrev places : List (Path × ℕ)
  places = in_order (placed_nest [] l)

  numbers_once : NoRepeat (map (λ x. x.1) (in_order (placed_nest [] l)))
  numbers_once =
      subst NoRepeat (sym (nest_is_ordered l) ∙ (ap in_order (sym (nest_is_placed l)) ∙ order_map (λ x. x.1) (placed_nest [] l))) (once_all (nodes_of l) (each_stands_once app τ τ st l s).0)

  abbrev path_of : Path × Option Thing → Path
  path_of x = x.0

  paths_drawn : map (λ x. x.0) (in_order (placed_nest [] l)) ≡ map (λ x. x.0) (in_order (forest_nest (draw app τ)))
  paths_drawn =
      let P = placed_nest [] l in
      let F = forest_nest (draw app τ) in
      twice (kept_content st.look) (in_order P)
      ∙ (ap (map path_of) (sym (order_map (kept_content st.look) P) ∙ (ap in_order (nest_is_drawn app τ st l s) ∙ order_map drawn_content F)) ∙ sym (again (in_order F))) where
        twice : (f : Path × ℕ → Path × Option Thing) (xs : List (Path × ℕ)) → map (λ (x : Path × ℕ). x.0) xs ≡ map path_of (map (kept_content st.look) xs)
        twice f [] = refl
        twice f (x ∷ xs) = ap (λ ys. x.0 ∷ ys) (twice f xs)

        again : (xs : List (Path × Content)) → map (λ (x : Path × Content). x.0) xs ≡ map path_of (map drawn_content xs)
        again [] = refl
        again (x ∷ xs) = ap (λ ys. x.0 ∷ ys) (again xs)

  paths_once : NoRepeat (map (λ x. x.0) (in_order (placed_nest [] l)))
  paths_once = subst NoRepeat (sym (nest_has_nodes (draw app τ)) ∙ sym paths_drawn) (nodes_once app τ)

  -- a node is the one with the number just where it is the one at the path
  agree : (q : Path) (n : ℕ) → Among (q, n) (in_order (placed_nest [] l)) → (x : Path × ℕ) → Among x (in_order (placed_nest [] l)) → (n == x.1) ≡ path_eq q x.0
  agree q n m x k =
      same_tests (n == x.1) (path_eq q x.0)
      (λ e. (path-Decides q x.0).1 (ap (λ (y : Path × ℕ). y.0) (told_by (λ y. y.1) (in_order (placed_nest [] l)) numbers_once (q, n) x m k ((Decides-eqb n x.1).0 e))))
      (λ e. (Decides-eqb n x.1).1 (ap (λ (y : Path × ℕ). y.1) (told_by (λ y. y.0) (in_order (placed_nest [] l)) paths_once (q, n) x m k ((path-Decides q x.0).0 e))))

  kids_drawn : (q : Path) (n : ℕ) → Among (q, n) (in_order (placed_nest [] l)) → map (kept_content st.look) (placed_children (Some n) l) ≡ map drawn_content (drawn_children (Some q) (forest_nest (draw app τ)))
  kids_drawn q n m =
      let t : Path × Option Thing → Bool = λ y. path_eq q y.0 in
      ap (map (kept_content st.look)) (kids_same (λ x. n == x.1) (λ x. path_eq q x.0) (placed_nest [] l) (agree q n m))
      ∙ (sym (kids_map (kept_content st.look) t (placed_nest [] l)) ∙ (ap (kids_where t) (nest_is_drawn app τ st l s) ∙ kids_map drawn_content t (forest_nest (draw app τ))))

pub children_are_drawn : ChildrenAreDrawn
children_are_drawn app τ st l s q n m = kids_drawn app τ st l s q n m

pub updated_children : UpdatedChildren
updated_children app σ τ st l s only =
    let r = Rattle.gl_plain.specs.Renew.renew_app app τ l st in
    let now = updated_stands app σ τ st l s only in (top_is_drawn app τ r.1 r.0 now, λ q n m. children_are_drawn app τ r.1 r.0 now q n m)

-- their paths alone
kept_paths : (look : Id → Option Thing) (xs : List (Path × ℕ)) → map (λ (x : Path × ℕ). x.0) xs ≡ map (λ (y : Path × Option Thing). y.0) (map (kept_content look) xs)
kept_paths look [] = refl
kept_paths look (x ∷ xs) = ap (λ ys. x.0 ∷ ys) (kept_paths look xs)

drawn_paths : (xs : List (Path × Content)) → map (λ (x : Path × Content). x.0) xs ≡ map (λ (y : Path × Option Thing). y.0) (map drawn_content xs)
drawn_paths [] = refl
drawn_paths (x ∷ xs) = ap (λ ys. x.0 ∷ ys) (drawn_paths xs)

pub children_by : ChildrenBy
children_by app s st l f =
    let st' = state_with f.named.owner f.named.source (λ x. false) st in
    let stands : StandsFor app s.store s.store st' l = f.named.stands (λ x. false) in
    let F = forest_nest (draw app s.store) in (
      kept_paths st'.look (placed_children None l) ∙ (ap (map (λ (y : Path × Option Thing). y.0)) (top_is_drawn app s.store st' l stands) ∙ sym (drawn_paths (drawn_children None F))),
      λ q n m. kept_paths st'.look (placed_children (Some n) l) ∙ (ap (map (λ (y : Path × Option Thing). y.0)) (children_are_drawn app s.store st' l stands q n m) ∙ sym (drawn_paths (drawn_children (Some q) F))),
    )
