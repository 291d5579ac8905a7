-- Forests: how often an id stands, the tree of an id, and what is left without it.
use Rattle.std.proofs.Common.{◌≡◌, ◌≢◌, ℕ, suc, ◌+◌, ◌<◌, ◌≤◌, ◌==◌, true, false, cond, List, [], ◌∷◌, ◌++◌, filter, refl, sym, ap, subst, ◌∙◌, inl, inr, arith, append_assoc}
use Rattle.std.specs.Prelude.{if◌then◌else◌}
use Rattle.std.proofs.lemmas.Bool.{cases_eq, cases_lt, ne_eqb}
use Rattle.gl_arena.specs.Id.{Id, same_id}
use Rattle.gl_arena.proofs.Ids.{same_id-refl, same_id-other, id_cases}
use Rattle.gl_destroy.specs.What.{What}
use Rattle.gl_destroy.specs.Forest.{Forest, end, tree, joined, leaf, hit, times, with_children, tree_at, without, children_first}
use Rattle.gl_destroy.specs.Links.{tops, size, times_in}

pub hit-same : (x : Id) → hit x x ≡ 1
unfolding hit
hit-same x = ap (λ b. cond b 1 0) (same_id-refl x)

pub hit-other : (x i : Id) → x ≢ i → hit x i ≡ 0
unfolding hit
hit-other x i ne = ap (λ b. cond b 1 0) (same_id-other x i ne)

pub hit-is : (x i : Id) → x ≡ i → hit x i ≡ 1
hit-is x i e = subst (λ j. hit x j ≡ 1) e (hit-same x)

-- What is counted over a forest: how often an id stands, or how many stand.
module _ (m : Forest → ℕ) (c : Id → ℕ) (none : m end ≡ 0) (step : (i : Id) (w : What) (k r : Forest) → m (tree i w k r) ≡ c i + (m k + m r)) where
  count-joined : (f g : Forest) → m (joined f g) ≡ m f + m g
  count-joined end g = omega (arith, none)
  count-joined (tree i w k r) g = omega (arith, count-joined r g, step i w k r, step i w k (joined r g))

  -- where the parent does not stand nothing is added
  count-off : (p : Id) (g f : Forest) → times p f ≡ 0 → m (with_children p g f) ≡ m f
  count-off p g end off = refl
  count-off p g (tree i w k r) off =
      let ne : i ≢ p = λ e. let one = hit-is p i (sym e) in absurd (omega (arith, one, off)) in
      let K = with_children p g k in
      let R = with_children p g r in
      let at : m (joined K (if same_id i p then g else end)) ≡ m (joined K end) = ap (λ b. m (joined K (if b then g else end))) (same_id-other i p ne) in
      let j = count-joined K end in
      let a = count-off p g k (omega (arith, off)) in
      let b = count-off p g r (omega (arith, off)) in
      let s = step i w (joined K (if same_id i p then g else end)) R in
      let t = step i w k r in
      omega (arith, at, j, a, b, s, t, none)

  count-with : (p : Id) (g f : Forest) → times p f ≤ 1 → m (with_children p g f) ≤ m f + m g
  count-with p g end once = omega (arith, none)
  count-with p g (tree i w k r) once = elim (id_cases p i) [
    | inl e ↦
        let one = hit-is p i e in
        let K = with_children p g k in
        let R = with_children p g r in
        let at : m (joined K (if same_id i p then g else end)) ≡ m (joined K g) = ap (λ b. m (joined K (if b then g else end))) (ap (λ j. same_id j p) (sym e) ∙ same_id-refl p) in
        let j = count-joined K g in
        let a = count-off p g k (omega (arith, once, one)) in
        let b = count-off p g r (omega (arith, once, one)) in
        let s = step i w (joined K (if same_id i p then g else end)) R in
        let t = step i w k r in
        omega (arith, at, j, a, b, s, t)
    | inr ne ↦
        let K = with_children p g k in
        let R = with_children p g r in
        let at : m (joined K (if same_id i p then g else end)) ≡ m (joined K end) = ap (λ b. m (joined K (if b then g else end))) (same_id-other i p (λ e. ne (sym e))) in
        let j = count-joined K end in
        let s = step i w (joined K (if same_id i p then g else end)) R in
        let t = step i w k r in
        elim (cases_eq (times p k) 0) [
          | inl off ↦ let a = count-off p g k off in let b = count-with p g r (omega (arith, once)) in omega (arith, at, j, a, b, s, t, none)
          | inr on ↦ let a = count-with p g k (omega (arith, once)) in let b = count-off p g r (omega (arith, once, on)) in omega (arith, at, j, a, b, s, t, none)
        ]
  ]

  count-without : (x : Id) (f : Forest) → m (without x f) ≤ m f
  count-without x end = omega arith
  count-without x (tree i w k r) = elim (same_id i x) as (λ b. m (if b then without x r else tree i w (without x k) (without x r)) ≤ m (tree i w k r)) [
    | true ↦ omega (arith, count-without x r, step i w k r)
    | false ↦ omega (arith, count-without x k, count-without x r, step i w k r, step i w (without x k) (without x r))
  ]

  count-tree_at : (x : Id) (f : Forest) → m (tree_at x f) ≤ m f
  count-tree_at x end = omega arith
  count-tree_at x (tree i w k r) = elim (same_id i x) as (λ b. m (if b then tree i w k (tree_at x r) else joined (tree_at x k) (tree_at x r)) ≤ m (tree i w k r)) [
    | true ↦ omega (arith, count-tree_at x r, step i w k r, step i w k (tree_at x r))
    | false ↦ omega (arith, count-tree_at x k, count-tree_at x r, step i w k r, count-joined (tree_at x k) (tree_at x r))
  ]

times-step : (j i : Id) (w : What) (k r : Forest) → times j (tree i w k r) ≡ hit j i + (times j k + times j r)
times-step j i w k r = refl

size-step : (i : Id) (w : What) (k r : Forest) → size (tree i w k r) ≡ 1 + (size k + size r)
size-step i w k r = omega arith

pub times-joined : (j : Id) (f g : Forest) → times j (joined f g) ≡ times j f + times j g
times-joined j f g = count-joined (times j) (hit j) refl (times-step j) f g

pub size-joined : (f g : Forest) → size (joined f g) ≡ size f + size g
size-joined f g = count-joined size (λ _. 1) refl size-step f g

pub times-with : (j p : Id) (g f : Forest) → times p f ≤ 1 → times j (with_children p g f) ≤ times j f + times j g
times-with j p g f once = count-with (times j) (hit j) refl (times-step j) p g f once

pub size-with : (p : Id) (g f : Forest) → times p f ≤ 1 → size (with_children p g f) ≤ size f + size g
size-with p g f once = count-with size (λ _. 1) refl size-step p g f once

pub times-without : (j x : Id) (f : Forest) → times j (without x f) ≤ times j f
times-without j x f = count-without (times j) (hit j) refl (times-step j) x f

pub size-without : (x : Id) (f : Forest) → size (without x f) ≤ size f
size-without x f = count-without size (λ _. 1) refl size-step x f

pub times-tree_at : (j x : Id) (f : Forest) → times j (tree_at x f) ≤ times j f
times-tree_at j x f = count-tree_at (times j) (hit j) refl (times-step j) x f

pub size-tree_at : (x : Id) (f : Forest) → size (tree_at x f) ≤ size f
size-tree_at x f = count-tree_at size (λ _. 1) refl size-step x f

-- At the least.

pub times-with_least : (j p : Id) (g f : Forest) → times j f ≤ times j (with_children p g f)
times-with_least j p g end = omega arith
times-with_least j p g (tree i w k r) =
    let K = with_children p g k in
    let more = times-joined j K (if same_id i p then g else end) in
    omega (arith, more, times-with_least j p g k, times-with_least j p g r)

pub times-with_new : (p x : Id) (w : What) (f : Forest) → 0 < times p f → 0 < times x (with_children p (leaf x w) f)
times-with_new p x w end lt = absurd (omega (arith, lt))
times-with_new p x w (tree i v k r) lt =
    let K = with_children p (leaf x w) k in
    let more = times-joined x K (if same_id i p then leaf x w else end) in
    elim (id_cases p i) [
      | inl e ↦
          let one = hit-same x in
          let at : times x (if same_id i p then leaf x w else end) ≡ times x (leaf x w) = ap (λ b. times x (if b then leaf x w else end)) (ap (λ j. same_id j p) (sym e) ∙ same_id-refl p) in
          omega (arith, more, at, one)
      | inr ne ↦
          let off = hit-other p i ne in
          elim (cases_lt 0 (times p k)) [
            | inl a ↦ let h = times-with_new p x w k a in omega (arith, more, h)
            | inr b ↦ let h = times-with_new p x w r (omega (arith, lt, off, b)) in omega (arith, h)
          ]
    ]

pub times-parts : (j x : Id) (f : Forest) → times j f ≤ times j (without x f) + times j (tree_at x f)
times-parts j x end = omega arith
times-parts j x (tree i w k r) = elim (same_id i x) as (λ b. times j (tree i w k r) ≤ times j (if b then without x r else tree i w (without x k) (without x r)) + times j (if b then tree i w k (tree_at x r) else joined (tree_at x k) (tree_at x r))) [
  | true ↦ omega (arith, times-parts j x r)
  | false ↦ let t = times-joined j (tree_at x k) (tree_at x r) in omega (arith, times-parts j x k, times-parts j x r, t)
]

-- the trees themselves
pub tops-joined : (f g : Forest) → tops (joined f g) ≡ tops f ++ tops g
tops-joined end g = refl
tops-joined (tree i w k r) g = ap (λ is. i ∷ is) (tops-joined r g)

pub tops-with : (p : Id) (g f : Forest) → tops (with_children p g f) ≡ tops f
tops-with p g end = refl
tops-with p g (tree i w k r) = ap (λ is. i ∷ is) (tops-with p g r)

-- children first
pub children_first-joined : (f g : Forest) → children_first (joined f g) ≡ children_first f ++ children_first g
children_first-joined end g = refl
children_first-joined (tree i w k r) g =
    ap (λ es. (children_first k ++ (i, w) ∷ []) ++ es) (children_first-joined r g) ∙ sym (append_assoc (children_first k ++ (i, w) ∷ []) (children_first r) (children_first g))

pub times_in-append : (j : Id) (es fs : List (Id × What)) → times_in j (es ++ fs) ≡ times_in j es + times_in j fs
times_in-append j [] fs = omega arith
times_in-append j (e ∷ es) fs = omega (arith, times_in-append j es fs)

pub times_in-children_first : (j : Id) (f : Forest) → times_in j (children_first f) ≡ times j f
times_in-children_first j end = refl
times_in-children_first j (tree i w k r) =
    omega (arith, times_in-append j (children_first k ++ (i, w) ∷ []) (children_first r), times_in-append j (children_first k) ((i, w) ∷ []), times_in-children_first j k, times_in-children_first j r)

-- a forest whose trees end with an id ends with its tree
pub cut_last : (f : Forest) (is : List Id) (x : Id) → tops f ≡ is ++ x ∷ [] → (g : Forest) × (w : What) × (k : Forest) × (f ≡ joined g (tree x w k end)) × (tops g ≡ is)
cut_last end [] x h = absurd (let no : ◌≡◌ {A = List Id} [] (x ∷ []) = h in cc)
cut_last end (i ∷ is) x h = absurd (let no : ◌≡◌ {A = List Id} [] (i ∷ (is ++ x ∷ [])) = h in cc)
cut_last (tree i w k r) [] x h =
    let one : i ≡ x = ap (head i) h in
    let none : tops r ≡ [] = ap tail h in
    (end, w, k, ap (λ q. tree i w k q) (no_tops r none) ∙ ap (λ j. tree j w k end) one, refl)
  where
    head : Id → List Id → Id
    head d [] = d
    head d (y ∷ ys) = y

    tail : List Id → List Id
    tail [] = []
    tail (y ∷ ys) = ys

    no_tops : (r : Forest) → tops r ≡ [] → r ≡ end
    no_tops end e = refl
    no_tops (tree j v l q) e = absurd (let no : ◌≡◌ {A = List Id} (j ∷ tops q) [] = e in cc)
cut_last (tree i w k r) (y ∷ is) x h =
    let one : i ≡ y = ap (head i) h in
    let rest = cut_last r is x (ap tail h) in
    (tree i w k rest.0, rest.1, rest.2, ap (tree i w k) rest.3, ap (λ ys. i ∷ ys) rest.4 ∙ ap (λ j. j ∷ is) one)
  where
    head : Id → List Id → Id
    head d [] = d
    head d (y ∷ ys) = y

    tail : List Id → List Id
    tail [] = []
    tail (y ∷ ys) = ys

-- The tree of an id that stands once.

pub tree_at-none : (x : Id) (f : Forest) → times x f ≡ 0 → tree_at x f ≡ end
tree_at-none x end off = refl
tree_at-none x (tree i w k r) off =
    let ne : i ≢ x = λ e. let one = hit-is x i (sym e) in absurd (omega (arith, one, off)) in
    ap (λ b. if b then tree i w k (tree_at x r) else joined (tree_at x k) (tree_at x r)) (same_id-other i x ne)
    ∙ (ap (λ g. joined g (tree_at x r)) (tree_at-none x k (omega (arith, off))) ∙ tree_at-none x r (omega (arith, off)))

pub tree_at-here : (x i : Id) (w : What) (k r : Forest) → i ≡ x → times x r ≡ 0 → tree_at x (tree i w k r) ≡ tree i w k end
tree_at-here x i w k r e off =
    ap (λ b. if b then tree i w k (tree_at x r) else joined (tree_at x k) (tree_at x r)) (ap (λ j. same_id j x) e ∙ same_id-refl x)
    ∙ ap (tree i w k) (tree_at-none x r off)

pub tree_at-there : (x i : Id) (w : What) (k r : Forest) → i ≢ x → tree_at x (tree i w k r) ≡ joined (tree_at x k) (tree_at x r)
tree_at-there x i w k r ne = ap (λ b. if b then tree i w k (tree_at x r) else joined (tree_at x k) (tree_at x r)) (same_id-other i x ne)

pub tops-tree_at : (x : Id) (f : Forest) → times x f ≡ 1 → tops (tree_at x f) ≡ x ∷ []
tops-tree_at x end on = absurd (omega (arith, on))
tops-tree_at x (tree i w k r) on = elim (id_cases i x) [
  | inl e ↦ let one = hit-is x i (sym e) in ap tops (tree_at-here x i w k r e (omega (arith, on, one))) ∙ ap (λ j. j ∷ []) e
  | inr ne ↦
      let off = hit-other x i (λ e. ne (sym e)) in
      ap tops (tree_at-there x i w k r ne) ∙ (tops-joined (tree_at x k) (tree_at x r) ∙ elim (cases_eq (times x k) 0) [
        | inl none ↦ ap (λ g. tops g ++ tops (tree_at x r)) (tree_at-none x k none) ∙ tops-tree_at x r (omega (arith, on, off, none))
        | inr some ↦ ap (λ g. tops (tree_at x k) ++ tops g) (tree_at-none x r (omega (arith, on, off, some))) ∙ ap (λ is. is ++ []) (tops-tree_at x k (omega (arith, on, off, some)))
      ])
]

-- What is left where those that are counted are taken out.

abbrev pub pruned : (Id → ℕ) → Forest → Forest
pruned g end = end
pruned g (tree i w k r) = if g i == 0 then tree i w (pruned g k) (pruned g r) else pruned g r

abbrev pub remaining : (Id → ℕ) → List Id → List Id
remaining g is = filter (λ i. g i == 0) is

pub tops-pruned : (g : Id → ℕ) (f : Forest) → tops (pruned g f) ≡ remaining g (tops f)
tops-pruned g end = refl
tops-pruned g (tree i w k r) = elim (g i == 0) as (λ b. tops (if b then tree i w (pruned g k) (pruned g r) else pruned g r) ≡ cond b (i ∷ remaining g (tops r)) (remaining g (tops r))) [
  | true ↦ ap (λ is. i ∷ is) (tops-pruned g r)
  | false ↦ tops-pruned g r
]

-- without the tree of an id is without all that stands in it, where each id stands once
pub pruned-without : (x : Id) (g : Id → ℕ) (f : Forest) → ((j : Id) → times j f ≤ 1) → ((j : Id) → 0 < times j f → g j ≡ times j (tree_at x f)) → pruned g f ≡ without x f
pruned-without x g end once same = refl
pruned-without x g (tree i w k r) once same = elim (id_cases i x) [
  | inl e ↦
      let me = hit-same i in
      let one = hit-is x i (sym e) in
      let oi = once i in
      let ox = once x in
      let here : tree_at x (tree i w k r) ≡ tree i w k end = tree_at-here x i w k r e (omega (arith, one, ox)) in
      let gone : g i ≡ suc (times i k + 0) = same i (omega (arith, me)) ∙ (ap (times i) here ∙ ap (λ n. n + (times i k + 0)) me ∙ omega arith) in
      let stands : (g i == 0) ≡ false = ne_eqb (g i) 0 (λ z. absurd (omega (arith, gone, z))) in
      ap (λ b. if b then tree i w (pruned g k) (pruned g r) else pruned g r) stands
      ∙ (pruned-without x g r (λ j. let o = once j in omega (arith, o)) (λ j lt.
      let o = once j in
      let s = same j (omega (arith, lt)) in
      let t = ap (times j) here in
      let u = ap (times j) (tree_at-none x r (omega (arith, one, ox))) in
      omega (arith, o, s, t, u, lt))
      ∙ sym (ap (λ b. if b then without x r else tree i w (without x k) (without x r)) (ap (λ j. same_id j x) e ∙ same_id-refl x)))
  | inr ne ↦
      let me = hit-same i in
      let there = tree_at-there x i w k r ne in
      let stays : g i ≡ 0 =
      let s = same i (omega (arith, me)) in
      let t = ap (times i) there in
      let u = times-joined i (tree_at x k) (tree_at x r) in
      let a = times-tree_at i x k in
      let b = times-tree_at i x r in
      let o = once i in
      omega (arith, me, s, t, u, a, b, o) in
      ap (λ n. if n == 0 then tree i w (pruned g k) (pruned g r) else pruned g r) stays
      ∙ (ap (λ q. tree i w q (pruned g r)) (pruned-without x g k (λ j. let o = once j in omega (arith, o)) (λ j lt.
      let s = same j (omega (arith, lt)) in
      let t = ap (times j) there in
      let u = times-joined j (tree_at x k) (tree_at x r) in
      let b = times-tree_at j x r in
      let o = once j in
      omega (arith, lt, s, t, u, b, o)))
      ∙ (ap (tree i w (without x k)) (pruned-without x g r (λ j. let o = once j in omega (arith, o)) (λ j lt.
      let s = same j (omega (arith, lt)) in
      let t = ap (times j) there in
      let u = times-joined j (tree_at x k) (tree_at x r) in
      let a = times-tree_at j x k in
      let o = once j in
      omega (arith, lt, s, t, u, a, o)))
      ∙ sym (ap (λ b. if b then without x r else tree i w (without x k) (without x r)) (same_id-other i x ne))))
]
