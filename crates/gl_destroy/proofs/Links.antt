-- Lists of children that are a forest, and what each call does to them.
use Rattle.std.proofs.Common.{◌≡◌, ◌≢◌, ℕ, zero, suc, ◌+◌, ◌<◌, ◌≤◌, ◌==◌, Bool, true, false, cond, List, [], ◌∷◌, ◌++◌, map, filter, Option, Some, None, option_map, refl, sym, ap, subst, ◌∙◌, inl, inr, arith, is_some, IsSome, append_assoc, append-nil}
use Rattle.std.specs.Prelude.{if◌then◌else◌, unwrap_or, reverse}
use Rattle.std.proofs.lemmas.List.{reverse-append, map-append}
use Rattle.std.proofs.lemmas.Grind.{reverse_onto}
use Rattle.std.proofs.lemmas.List.Elements.{filter-append}
use Rattle.gl_arena.specs.Id.{Id, same_id}
use Rattle.gl_arena.proofs.Ids.{same_id-other, id_cases}
use Rattle.gl_destroy.specs.What.{What}
use Rattle.gl_destroy.specs.Forest.{Forest, end, tree, joined, leaf, times, with_children, put_last, tree_at, without, children_first, IsParent}
use Rattle.gl_destroy.specs.Links.{Look, living, tops, size, AreGiven, Linked, read, read_at, forest_in, IsForest, IsWhole, one_if, more_children, listed, listed_in, ids_with, ended, tree_in, IsTree, IsLeft}
use Rattle.gl_destroy.proofs.Forests.{hit-other, hit-is, times-joined, size-joined, times-with, size-with, times-without, size-without, size-tree_at, tops-joined, tops-with, children_first-joined, cut_last, tops-tree_at, pruned, remaining, tops-pruned, pruned-without}

-- the forest is read back
pub read-is : (l : Look) (n : ℕ) (f : Forest) → size f ≤ n → Linked l f → read l n (tops f) ≡ f
read-is l zero end le h = refl
read-is l (suc n) end le h = refl
read-is l zero (tree i w k r) le h = absurd (omega (arith, le))
read-is l (suc n) (tree i w k r) le h =
    ap (read_at l (read l n) i (tops r)) h.0.1
    ∙ (ap (λ ks. tree i w (read l n ks) (read l n (tops r))) h.0.2
    ∙ (ap (λ g. tree i w g (read l n (tops r))) (read-is l n k (omega (arith, le)) h.1)
    ∙ ap (tree i w k) (read-is l n r (omega (arith, le)) h.2)))

pub shown : (l : Look) (made : ℕ) (ids : List Id) (f : Forest) → IsForest l made ids f → forest_in l made ids ≡ f
shown l made ids f is = ap (read l made) is.heads ∙ read-is l made f is.fits is.linked

pub kept : (l : Look) (made : ℕ) (ids : List Id) (f : Forest) → IsForest l made ids f → IsForest l made ids (forest_in l made ids)
kept l made ids f is = subst (IsForest l made ids) (sym (shown l made ids f is)) is

pub whole : (l : Look) (made : ℕ) (ids : List Id) (f : Forest) → IsForest l made ids f → ((i : Id) → IsSome (l i) → 0 < times i f) → IsWhole l made ids (forest_in l made ids)
whole l made ids f is stands = subst (IsWhole l made ids) (sym (shown l made ids f is)) (record { forest = is; stands = stands })

-- Ids that were given.

pub given_later : (m n : ℕ) (cs : List Id) → m ≤ n → AreGiven m cs → AreGiven n cs
given_later m n [] le h = tt
given_later m n (c ∷ cs) le h = (let lt = h.0 in omega (arith, lt, le), given_later m n cs le h.1)

pub given_append : (m : ℕ) (cs ds : List Id) → AreGiven m cs → AreGiven m ds → AreGiven m (cs ++ ds)
given_append m [] ds a b = b
given_append m (c ∷ cs) ds a b = (a.0, given_append m cs ds a.1 b)

pub later : (l : Look) (m n : ℕ) (ids : List Id) (f : Forest) → m ≤ n → IsForest l m ids f → IsForest l n ids f
later l m n ids f le is = record {
  heads = is.heads;
  linked = is.linked;
  once = is.once;
  fits = let h = is.fits in omega (arith, h, le);
  given = given_later m n ids le is.given;
  lists = λ i w cs e. given_later m n cs le (is.lists i w cs e);
}

-- What lives.

abbrev entry_of : What × List Id → Option (What × List Id) → What × List Id
entry_of d o = unwrap_or o d

pub none_some : {A : Type 0} (o : Option A) (a : A) → o ≡ None → o ≡ Some a → ⊥
none_some o a n s = let no : None ≡ Some a = sym n ∙ s in cc

living-same : (l m : Look) (made : ℕ) (cs : List Id) → AreGiven made cs → ((c : Id) → c.1 < made → m c ≡ l c) → living m cs ≡ living l cs
living-same l m made [] h same = refl
living-same l m made (c ∷ cs) h same =
    ap (λ o. cond (is_some o) (c ∷ living m cs) (living m cs)) (same c h.0)
    ∙ ap (λ t. cond (is_some (l c)) (c ∷ t) t) (living-same l m made cs h.1 same)

pub stands_not : (l : Look) (x : Id) (f : Forest) → Linked l f → l x ≡ None → times x f ≡ 0
stands_not l x end h n = refl
stands_not l x (tree i w k r) h n =
    let off = hit-other x i (λ e. none_some (l x) (w, h.0.0) n (ap l e ∙ h.0.1)) in
    let a = stands_not l x k h.1 n in
    let b = stands_not l x r h.2 n in
    omega (arith, off, a, b)

pub stands_live : (l : Look) (x : Id) (f : Forest) → Linked l f → 0 < times x f → IsSome (l x)
stands_live l x f h lt = by_case (l x) refl
  where
    by_case : (o : Option (What × List Id)) → l x ≡ o → IsSome (l x)
    by_case None e = let off = stands_not l x f h e in absurd (omega (arith, off, lt))
    by_case (Some v) e = ap is_some e

pub Linked-joined : (l : Look) (f g : Forest) → Linked l f → Linked l g → Linked l (joined f g)
Linked-joined l end g a b = b
Linked-joined l (tree i w k r) g a b = ((a.0.0, a.0.1, a.0.2), a.1, Linked-joined l r g a.2 b)

pub Linked-split : (l : Look) (f g : Forest) → Linked l (joined f g) → Linked l f × Linked l g
Linked-split l end g h = (tt, h)
Linked-split l (tree i w k r) g h = let s = Linked-split l r g h.2 in (((h.0.0, h.0.1, h.0.2), h.1, s.0), s.1)

pub Linked-tree_at : (l : Look) (x : Id) (f : Forest) → Linked l f → Linked l (tree_at x f)
Linked-tree_at l x end h = tt
Linked-tree_at l x (tree i w k r) h = elim (same_id i x) as (λ b. Linked l (if b then tree i w k (tree_at x r) else joined (tree_at x k) (tree_at x r))) [
  | true ↦ ((h.0.0, h.0.1, h.0.2), h.1, Linked-tree_at l x r h.2)
  | false ↦ Linked-joined l (tree_at x k) (tree_at x r) (Linked-tree_at l x k h.1) (Linked-tree_at l x r h.2)
]

-- An entry is put in under a new id.

module _ (l m : Look) (made : ℕ) (x : Id) (w : What) (stamp : x.1 ≡ made) (vacant : l x ≡ None) (put : m x ≡ Some (w, [])) (others : (i : Id) → i ≢ x → m i ≡ l i) where
  same_given : (c : Id) → c.1 < made → m c ≡ l c
  same_given c lt = others c (λ e. let at = ap (λ j. j.1) e in absurd (omega (arith, at, lt, stamp)))

  Linked-put : (f : Forest) → ((i : Id) (v : What) (cs : List Id) → l i ≡ Some (v, cs) → AreGiven made cs) → Linked l f → Linked m f
  Linked-put end lists h = tt
  Linked-put (tree i v k r) lists h = (
    (h.0.0, others i (λ e. none_some (l i) (v, h.0.0) (ap l e ∙ vacant) h.0.1) ∙ h.0.1, living-same l m made h.0.0 (lists i v h.0.0 h.0.1) same_given ∙ h.0.2),
    Linked-put k lists h.1,
    Linked-put r lists h.2,
  )

  pub put_in : (ids : List Id) (f : Forest) → IsForest l made ids f → IsForest m (made + 1) ids f
  put_in ids f is = record {
    heads = living-same l m made ids is.given same_given ∙ is.heads;
    linked = Linked-put f is.lists is.linked;
    once = is.once;
    fits = let h = is.fits in omega (arith, h);
    given = given_later made (made + 1) ids (omega arith) is.given;
    lists = λ i v cs e. elim (id_cases i x) [
      | inl q ↦ subst (AreGiven (made + 1)) (ap (λ o. (entry_of (w, []) o).1) (sym put ∙ (ap m (sym q) ∙ e))) tt
      | inr ne ↦ given_later made (made + 1) cs (omega arith) (is.lists i v cs (sym (others i ne) ∙ e))
    ];
  }

-- It is listed as the last child of its parent, or as the last tree.

pub listed-at : (p x : Id) (m : Look) (i : Id) (w : What) (cs : List Id) → m i ≡ Some (w, cs) → listed p x m i ≡ Some (w, cs ++ one_if i p x)
unfolding listed
listed-at p x m i w cs e = ap (option_map (more_children (one_if i p x))) e

pub listed-lives : (p x : Id) (m : Look) (i : Id) → is_some (listed p x m i) ≡ is_some (m i)
unfolding listed
listed-lives p x m i = elim (m i) as (λ o. is_some (option_map (more_children (one_if i p x)) o) ≡ is_some o) [ None ↦ refl | Some e ↦ refl ]

listed-was : (p x : Id) (m : Look) (i : Id) (w : What) (cs : List Id) → listed p x m i ≡ Some (w, cs) → (bs : List Id) × (m i ≡ Some (w, bs)) × (bs ++ one_if i p x ≡ cs)
unfolding listed
listed-was p x m i w cs h = by_case (m i) refl h
  where
    by_case : (o : Option (What × List Id)) → m i ≡ o → option_map (more_children (one_if i p x)) o ≡ Some (w, cs) → (bs : List Id) × (m i ≡ Some (w, bs)) × (bs ++ one_if i p x ≡ cs)
    by_case None e t = absurd (none_some None (w, cs) refl t)
    by_case (Some v) e t = (v.1, e ∙ ap (λ u. Some (u, v.1)) (ap (λ o. (entry_of (w, cs) o).0) t), ap (λ o. (entry_of (w, cs) o).1) t)

living-listed : (p x : Id) (m : Look) (cs : List Id) → living (listed p x m) cs ≡ living m cs
living-listed p x m [] = refl
living-listed p x m (c ∷ cs) =
    ap (λ b. cond b (c ∷ living (listed p x m) cs) (living (listed p x m) cs)) (listed-lives p x m c)
    ∙ ap (λ t. cond (is_some (m c)) (c ∷ t) t) (living-listed p x m cs)

living-one : (m : Look) (i p x : Id) → IsSome (m x) → living m (one_if i p x) ≡ one_if i p x
living-one m i p x s = elim (same_id i p) as (λ b. living m (if b then x ∷ [] else []) ≡ (if b then x ∷ [] else [])) [
  | true ↦ ap (λ b. cond b (x ∷ []) []) s
  | false ↦ refl
]

tops-one : (i p x : Id) (w : What) → tops (if same_id i p then leaf x w else end) ≡ one_if i p x
tops-one i p x w = elim (same_id i p) as (λ b. tops (if b then leaf x w else end) ≡ (if b then x ∷ [] else [])) [ true ↦ refl | false ↦ refl ]

Linked-listed : (p x : Id) (w : What) (m : Look) → IsSome (m x) → Linked (listed p x m) (leaf x w) → (f : Forest) → Linked m f → Linked (listed p x m) (with_children p (leaf x w) f)
Linked-listed p x w m s one end h = tt
Linked-listed p x w m s one (tree i v k r) h = (
  (
    h.0.0 ++ one_if i p x,
    listed-at p x m i v h.0.0 h.0.1,
    living-listed p x m (h.0.0 ++ one_if i p x)
        ∙ (filter-append (λ c. is_some (m c)) h.0.0 (one_if i p x)
        ∙ (ap (λ ks. ks ++ living m (one_if i p x)) h.0.2
        ∙ (ap (λ ks. tops k ++ ks) (living-one m i p x s)
        ∙ sym (tops-joined (with_children p (leaf x w) k) (if same_id i p then leaf x w else end) ∙ (ap (λ ks. ks ++ tops (if same_id i p then leaf x w else end)) (tops-with p (leaf x w) k) ∙ ap (λ ks. tops k ++ ks) (tops-one i p x w)))))),
  ),
  Linked-joined (listed p x m) (with_children p (leaf x w) k) (if same_id i p then leaf x w else end) (Linked-listed p x w m s one k h.1)
      (elim (same_id i p) as (λ b. Linked (listed p x m) (if b then leaf x w else end)) [ true ↦ one | false ↦ tt ]),
  Linked-listed p x w m s one r h.2,
)

given_one : (made : ℕ) (i p x : Id) → x.1 < made → AreGiven made (one_if i p x)
given_one made i p x lt = elim (same_id i p) as (λ b. AreGiven made (if b then x ∷ [] else [])) [ true ↦ (lt, tt) | false ↦ tt ]

once_more : (x : Id) (w : What) (f : Forest) → times x f ≡ 0 → ((j : Id) → times j f ≤ 1) → (j : Id) → times j f + times j (leaf x w) ≤ 1
once_more x w f off once j = elim (id_cases j x) [
  | inl e ↦ let at = ap (λ q. times q f) e in let one = hit-is j x e in omega (arith, at, off, one)
  | inr ne ↦ let none = hit-other j x ne in let o = once j in omega (arith, none, o)
]

pub hung : (parent : Option Id) (m : Look) (made : ℕ) (ids : List Id) (f : Forest) (x : Id) (w : What) → IsForest m made ids f → m x ≡ Some (w, []) → times x f ≡ 0 → x.1 < made → size f < made → IsParent f parent
    → IsForest (listed_in parent x m) made (ids_with parent x ids) (put_last parent x w f)
hung None m made ids f x w is put off lt fits is_parent = record {
  heads =
      filter-append (λ c. is_some (m c)) ids (x ∷ [])
      ∙ (ap (λ ks. ks ++ living m (x ∷ [])) is.heads
      ∙ (ap (λ o. tops f ++ cond (is_some o) (x ∷ []) []) put ∙ sym (tops-joined f (leaf x w))));
  linked = Linked-joined m f (leaf x w) is.linked (([], put, refl), tt, tt);
  once = λ j. let t = times-joined j f (leaf x w) in let o = once_more x w f off is.once j in omega (arith, t, o);
  fits = let t = size-joined f (leaf x w) in omega (arith, t, fits);
  given = given_append made ids (x ∷ []) is.given (lt, tt);
  lists = is.lists;
}
hung (Some p) m made ids f x w is put off lt fits is_parent =
    let other : x ≢ p = λ e. let at = ap (λ q. times q f) e in absurd (omega (arith, at, off, is_parent)) in
    let bare : one_if x p x ≡ [] = ap (λ b. if b then x ∷ [] else []) (same_id-other x p other) in
    record {
      heads = living-listed p x m ids ∙ (is.heads ∙ sym (tops-with p (leaf x w) f));
      linked = Linked-listed p x w m (ap is_some put) ((one_if x p x, listed-at p x m x w [] put, ap (living (listed p x m)) bare), tt, tt) f is.linked;
      once = λ j. let t = times-with j p (leaf x w) f (is.once p) in let o = once_more x w f off is.once j in omega (arith, t, o);
      fits = let t = size-with p (leaf x w) f (is.once p) in omega (arith, t, fits);
      given = is.given;
      lists = λ i v cs e. let was = listed-was p x m i v cs e in subst (AreGiven made) was.2 (given_append made was.0 (one_if i p x) (is.lists i v was.0 was.1) (given_one made i p x lt));
    }

-- Some ids live no more.

ended-stays : (g : Id → ℕ) (l : Look) (i : Id) → (g i == 0) ≡ true → ended g l i ≡ l i
unfolding ended
ended-stays g l i e = ap (λ b. if b then l i else None) e

ended-was : (g : Id → ℕ) (l : Look) (i : Id) (v : What × List Id) → ended g l i ≡ Some v → l i ≡ Some v
unfolding ended
ended-was g l i v h = elim (g i == 0) as (λ b. (if b then l i else None) ≡ Some v → l i ≡ Some v) [ true ↦ λ t. t | false ↦ λ t. absurd (none_some None v refl t) ] h

ended-lives : (g : Id → ℕ) (l : Look) (i : Id) → is_some (ended g l i) ≡ cond (g i == 0) (is_some (l i)) false
unfolding ended
ended-lives g l i = elim (g i == 0) as (λ b. is_some (if b then l i else None) ≡ cond b (is_some (l i)) false) [ true ↦ refl | false ↦ refl ]

living-step : (p : Id → Bool) (c : Id) (b s : Bool) (xs ys : List Id) → p c ≡ b → ys ≡ filter p xs → cond (cond b s false) (c ∷ ys) ys ≡ filter p (cond s (c ∷ xs) xs)
living-step p c true true xs ys e h = ap (λ t. c ∷ t) h ∙ sym (ap (λ q. cond q (c ∷ filter p xs) (filter p xs)) e)
living-step p c true false xs ys e h = h
living-step p c false true xs ys e h = h ∙ sym (ap (λ q. cond q (c ∷ filter p xs) (filter p xs)) e)
living-step p c false false xs ys e h = h

living-ended : (g : Id → ℕ) (l : Look) (cs : List Id) → living (ended g l) cs ≡ remaining g (living l cs)
living-ended g l [] = refl
living-ended g l (c ∷ cs) =
    ap (λ b. cond b (c ∷ living (ended g l) cs) (living (ended g l) cs)) (ended-lives g l c)
    ∙ living-step (λ i. g i == 0) c (g c == 0) (is_some (l c)) (living l cs) (living (ended g l) cs) refl (living-ended g l cs)

Linked-ended : (g : Id → ℕ) (l : Look) (f : Forest) → Linked l f → Linked (ended g l) (pruned g f)
Linked-ended g l end h = tt
Linked-ended g l (tree i w k r) h = elim (g i == 0) as (λ b. (g i == 0) ≡ b → Linked (ended g l) (if b then tree i w (pruned g k) (pruned g r) else pruned g r)) [
  | true ↦ λ e. (
    (h.0.0, ended-stays g l i e ∙ h.0.1, living-ended g l h.0.0 ∙ (ap (remaining g) h.0.2 ∙ sym (tops-pruned g k))),
    Linked-ended g l k h.1,
    Linked-ended g l r h.2,
  )
  | false ↦ λ e. Linked-ended g l r h.2
] refl

-- where these are all that stand in the tree of an id, the forest is without that tree
pub taken_away : (l n : Look) (made : ℕ) (ids : List Id) (f : Forest) (x : Id) (g : Id → ℕ) → IsForest l made ids f → ((j : Id) → g j ≡ times j (tree_at x f)) → ((i : Id) → n i ≡ ended g l i) → IsForest n made ids (without x f)
taken_away l n made ids f x g is same now = subst (λ q. IsForest q made ids (without x f)) (λ t i. sym (now i) t) (record {
  heads = living-ended g l ids ∙ (ap (remaining g) is.heads ∙ (sym (tops-pruned g f) ∙ ap tops pr));
  linked = subst (Linked (ended g l)) pr (Linked-ended g l f is.linked);
  once = λ j. let t = times-without j x f in let o = is.once j in omega (arith, t, o);
  fits = let t = size-without x f in let s = is.fits in omega (arith, t, s);
  given = is.given;
  lists = λ i w cs e. is.lists i w cs (ended-was g l i (w, cs) e);
})
  where
    pr : pruned g f ≡ without x f
    pr = pruned-without x g f is.once (λ j lt. same j)

-- The walk.

pub map-reverse : {A B : Type 0} (f : A → B) (xs : List A) → map f (reverse xs) ≡ reverse (map f xs)
map-reverse f [] = refl
map-reverse f (x ∷ xs) =
    ap (map f) (reverse_onto xs x [])
    ∙ (map-append f (reverse xs) (x ∷ [])
    ∙ (ap (λ t. t ++ f x ∷ []) (map-reverse f xs) ∙ sym (reverse_onto (map f xs) (f x) [])))

pub tree_in-is : (l : Look) (made : ℕ) (ids : List Id) (f : Forest) (x : Id) → IsForest l made ids f → 0 < times x f → tree_in l made x ≡ tree_at x f
tree_in-is l made ids f x is lt =
    let one : times x f ≡ 1 = let o = is.once x in omega (arith, o, lt) in
    ap (read l made) (sym (tops-tree_at x f one)) ∙ read-is l made (tree_at x f) (let t = size-tree_at x f in let s = is.fits in omega (arith, t, s)) (Linked-tree_at l x f is.linked)

pub is_tree : (l : Look) (made : ℕ) (ids : List Id) (f : Forest) (x : Id) → IsForest l made ids f → 0 < times x f → IsTree l made x (tree_in l made x)
is_tree l made ids f x is lt = subst (IsTree l made x) (sym (tree_in-is l made ids f x is lt)) (record {
  heads = tops-tree_at x f (let o = is.once x in omega (arith, o, lt));
  linked = Linked-tree_at l x f is.linked;
  fits = let t = size-tree_at x f in let s = is.fits in omega (arith, t, s);
})

pub first_left : (l : Look) (made : ℕ) (x : Id) (f : Forest) → IsTree l made x f → IsLeft l made (x ∷ []) [] (children_first f)
first_left l made x f is = record { forest = f; heads = is.heads; linked = is.linked; fits = is.fits; is = append-nil (children_first f) }

pub none_left : (l : Look) (made : ℕ) (order whole : List (Id × What)) → IsLeft l made [] order whole → reverse order ≡ whole
none_left l made order whole left = by_case left.forest left.heads left.is
  where
    by_case : (f : Forest) → tops f ≡ [] → children_first f ++ reverse order ≡ whole → reverse order ≡ whole
    by_case end e t = t
    by_case (tree i w k r) e t = absurd (let no : ◌≡◌ {A = List Id} (i ∷ tops r) [] = e in cc)

pub left_lives : (l : Look) (made : ℕ) (is : List Id) (x : Id) (order whole : List (Id × What)) → IsLeft l made (is ++ x ∷ []) order whole → IsSome (l x)
left_lives l made is x order whole left =
    let c = cut_last left.forest is x left.heads in
    let s = Linked-split l c.0 (tree x c.1 c.2 end) (subst (Linked l) c.3 left.linked) in
    ap is_some s.1.0.1

left_size : (l : Look) (made : ℕ) (stack : List Id) (order whole : List (Id × What)) (left : IsLeft l made stack order whole) → size (read l made stack) ≡ size left.forest
left_size l made stack order whole left = ap (λ ids. size (read l made ids)) (sym left.heads) ∙ ap size (read-is l made left.forest left.fits left.linked)

module _ (l : Look) (made : ℕ) (is : List Id) (x : Id) (v : What) (cs : List Id) (order whole : List (Id × What)) (left : IsLeft l made (is ++ x ∷ []) order whole) (at : l x ≡ Some (v, cs)) where
  cut : (g : Forest) × (w : What) × (k : Forest) × (left.forest ≡ joined g (tree x w k end)) × (tops g ≡ is)
  cut = cut_last left.forest is x left.heads

  parts : Linked l cut.0 × Linked l (tree x cut.1 cut.2 end)
  parts = Linked-split l cut.0 (tree x cut.1 cut.2 end) (subst (Linked l) cut.3 left.linked)

  same_entry : ◌≡◌ {A = Option (What × List Id)} (Some (cut.1, parts.1.0.0)) (Some (v, cs))
  same_entry = sym parts.1.0.1 ∙ at

  sizes : size left.forest ≡ size (joined cut.0 cut.2) + 1
  sizes =
      let a = ap size cut.3 in
      let b = size-joined cut.0 (tree x cut.1 cut.2 end) in
      let c = size-joined cut.0 cut.2 in
      omega (arith, a, b, c)

  step_heads : tops (joined cut.0 cut.2) ≡ is ++ living l cs
  step_heads = tops-joined cut.0 cut.2 ∙ (ap (λ ks. ks ++ tops cut.2) cut.4 ∙ ap (λ ks. is ++ ks) (sym parts.1.0.2 ∙ ap (living l) (ap (λ o. (entry_of (v, cs) o).1) same_entry)))

  step_linked : Linked l (joined cut.0 cut.2)
  step_linked = Linked-joined l cut.0 cut.2 parts.0 parts.1.1

  step_fits : size (joined cut.0 cut.2) ≤ made
  step_fits = let f = left.fits in let s = sizes in omega (arith, f, s)

  -- the last id's children take its place
  pub step_left : IsLeft l made (is ++ living l cs) (order ++ (x, v) ∷ []) whole
  step_left = record {
    forest = joined cut.0 cut.2;
    heads = step_heads;
    linked = step_linked;
    fits = step_fits;
    is =
        let what : cut.1 ≡ v = ap (λ o. (entry_of (v, cs) o).0) same_entry in
        let a : children_first (joined cut.0 cut.2) ++ reverse (order ++ (x, v) ∷ []) ≡ (children_first cut.0 ++ children_first cut.2) ++ ((x, v) ∷ reverse order) =
        ap (λ es. es ++ reverse (order ++ (x, v) ∷ [])) (children_first-joined cut.0 cut.2) ∙ ap (λ es. (children_first cut.0 ++ children_first cut.2) ++ es) (reverse-append order ((x, v) ∷ [])) in
        let b : children_first left.forest ≡ children_first cut.0 ++ ((children_first cut.2 ++ (x, v) ∷ []) ++ []) =
        ap children_first cut.3 ∙ (children_first-joined cut.0 (tree x cut.1 cut.2 end) ∙ ap (λ w. children_first cut.0 ++ ((children_first cut.2 ++ (x, w) ∷ []) ++ [])) what) in
        a ∙ (append_assoc (children_first cut.0) (children_first cut.2) ((x, v) ∷ reverse order)
        ∙ (sym (ap (λ es. children_first cut.0 ++ es) (ap (λ es. es ++ reverse order) (append-nil (children_first cut.2 ++ (x, v) ∷ [])) ∙ append_assoc (children_first cut.2) ((x, v) ∷ []) (reverse order)))
        ∙ (sym (append_assoc (children_first cut.0) ((children_first cut.2 ++ (x, v) ∷ []) ++ []) (reverse order))
        ∙ (ap (λ es. es ++ reverse order) (sym b) ∙ left.is))));
  }

  pub step_smaller : size (read l made (is ++ living l cs)) < size (read l made (is ++ x ∷ []))
  step_smaller =
      let a = left_size l made (is ++ x ∷ []) order whole left in
      let b : size (read l made (is ++ living l cs)) ≡ size (joined cut.0 cut.2) = ap (λ ids. size (read l made ids)) (sym step_heads) ∙ ap size (read-is l made (joined cut.0 cut.2) step_fits step_linked) in
      let s = sizes in
      omega (arith, a, b, s)
