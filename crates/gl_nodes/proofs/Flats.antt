-- A forest by the stamps of its nodes.
use Rattle.std.proofs.Common.{◌≡◌, ◌≢◌, ℕ, ◌+◌, ◌<◌, ◌≤◌, ◌==◌, true, false, List, [], ◌∷◌, ◌++◌, Option, Some, None, refl, sym, ap, ◌∙◌, inl, inr, arith, append_assoc, append-nil}
use Rattle.std.specs.Prelude.{if◌then◌else◌, unwrap_or}
use Rattle.std.proofs.lemmas.Bool.{cases_lt, cases_eq}
use Rattle.gl_arena.specs.Id.{Id, same_id}
use Rattle.gl_arena.proofs.Ids.{same_id-refl, same_id-other, id_cases}
use Rattle.gl_nodes.specs.Forest.{Forest, end, tree, leaf, joined, hit, times, times_top, either, below, below_node, edit, edit_node, until, from, through, past, put_before, run, without, moved, IsAmong, IsRun}
use Rattle.gl_nodes.specs.Flat.{same_stamp, stands, tops, kids_in, kids, head_of, last_from, placed, stamp_of}
use Rattle.gl_nodes.proofs.Counts.{hit-same, hit-other, here, down, along, below_node-cases, below_node-none, edit_node-here, edit_node-there, edit_node-absent, below_node-times, some_same}
use Rattle.gl_nodes.proofs.Cutting.{until-from, through-past}

pub stamp-same : (s : ℕ) → same_stamp s s ≡ 1
unfolding same_stamp
stamp-same s = grind arith

pub stamp-other : (s q : ℕ) → s ≢ q → same_stamp s q ≡ 0
unfolding same_stamp
stamp-other s q ne = grind arith

pub test-same : (s q : ℕ) → s ≡ q → (s == q) ≡ true
test-same s q e = grind arith

pub test-other : (s q : ℕ) → s ≢ q → (s == q) ≡ false
test-other s q ne = grind arith

pub stands-joined : (s : ℕ) (f g : Forest) → stands s (joined f g) ≡ stands s f + stands s g
stands-joined s end g = omega arith
stands-joined s (tree i k r) g = omega (arith, stands-joined s r g)

pub tops-joined : (f g : Forest) → tops (joined f g) ≡ tops f ++ tops g
tops-joined end g = refl
tops-joined (tree i k r) g = ap (λ l. i.1 ∷ l) (tops-joined r g)

-- an id that stands there has a stamp that stands there
pub stands-times : (i : Id) (f : Forest) → times i f ≤ stands i.1 f
stands-times i end = omega arith
stands-times i (tree j k r) = let a = stands-times i k in let b = stands-times i r in elim (id_cases i j) [
  | inl e ↦ let h = ap (hit i) (sym e) in let one = hit-same i in let q = ap (λ z. same_stamp i.1 z.1) (sym e) in let w = stamp-same i.1 in omega (arith, a, b, h, one, q, w)
  | inr ne ↦ let h = hit-other i j ne in omega (arith, a, b, h)
]

pub stands-top : (i : Id) (f : Forest) → times_top i f ≤ stands i.1 f
stands-top i end = omega arith
stands-top i (tree j k r) = let b = stands-top i r in elim (id_cases i j) [
  | inl e ↦ let h = ap (hit i) (sym e) in let one = hit-same i in let q = ap (λ z. same_stamp i.1 z.1) (sym e) in let w = stamp-same i.1 in omega (arith, b, h, one, q, w)
  | inr ne ↦ let h = hit-other i j ne in omega (arith, b, h)
]

-- the same count, where no other id of the forest has the stamp
pub stands-is : (i : Id) (f : Forest) → ((j : Id) → 0 < times j f → j.1 ≡ i.1 → j ≡ i) → stands i.1 f ≡ times i f
stands-is i end only = refl
stands-is i (tree j k r) only = let a = stands-is i k (λ z lt e. only z (omega (arith, lt)) e) in let b = stands-is i r (λ z lt e. only z (omega (arith, lt)) e) in elim (cases_eq j.1 i.1) [
  | inl e ↦
      let same = only j (let one = hit-same j in omega (arith, one)) e in let h = ap (hit i) same in let one = hit-same i in let q = ap (same_stamp i.1) e in let w = stamp-same i.1 in omega (arith, a, b, h, one, q, w)
  | inr ne ↦
      let h = hit-other i j (λ e. ne (sym (ap (λ z. z.1) e))) in let q = stamp-other i.1 j.1 (λ e. ne (sym e)) in omega (arith, a, b, h, q)
]

-- a stamp that stands there is that of an id
pub stands-id : (s : ℕ) (f : Forest) → 0 < stands s f → (i : Id) × (i.1 ≡ s) × (0 < times i f)
stands-id s end lt = absurd (omega arith)
stands-id s (tree j k r) lt = elim (cases_eq s j.1) [
  | inl e ↦ (j, sym e, let one = hit-same j in omega (arith, one))
  | inr ne ↦ elim (cases_lt 0 (stands s k)) [
    | inl on ↦ let q = stands-id s k on in (q.0, q.1, let w = q.2 in omega (arith, w))
    | inr off ↦ let q = stands-id s r (let z = stamp-other s j.1 ne in omega (arith, lt, off, z)) in (q.0, q.1, let w = q.2 in omega (arith, w))
  ]
]

-- each stamp stands once, where each id does and no two ids have one stamp
pub stands-once : (f : Forest) → ((i : Id) → times i f ≤ 1) → ((i k : Id) → 0 < times i f → 0 < times k f → i.1 ≡ k.1 → i ≡ k) → (s : ℕ) → stands s f ≤ 1
stands-once f once apart s = elim (cases_lt 0 (stands s f)) [
  | inl lt ↦
      let q = stands-id s f lt in let same = stands-is q.0 f (λ j lt e. apart j q.0 lt q.2 e) in let o = once q.0 in let at = ap (λ z. stands z f) q.1 in omega (arith, same, o, at)
  | inr off ↦ omega (arith, off)
]

-- Children.
pub kids_in-here : (s : ℕ) (i : Id) (k r : Forest) → s ≡ i.1 → kids_in s (tree i k r) ≡ tops k ++ (kids_in s k ++ kids_in s r)
kids_in-here s i k r e = ap (λ b. (if b then tops k else []) ++ (kids_in s k ++ kids_in s r)) (test-same s i.1 e)

pub kids_in-there : (s : ℕ) (i : Id) (k r : Forest) → s ≢ i.1 → kids_in s (tree i k r) ≡ kids_in s k ++ kids_in s r
kids_in-there s i k r ne = ap (λ b. (if b then tops k else []) ++ (kids_in s k ++ kids_in s r)) (test-other s i.1 ne)

pub kids_in-off : (s : ℕ) (f : Forest) → stands s f ≡ 0 → kids_in s f ≡ []
kids_in-off s end off = refl
kids_in-off s (tree i k r) off = kids_in-there s i k r (λ e. let q = ap (same_stamp s) (sym e) in let one = stamp-same s in absurd (omega (arith, q, one, off))) ∙ (ap (λ l. l ++ kids_in s r) (kids_in-off s k (omega (arith, off))) ∙ kids_in-off s r (omega (arith, off)))

pub kids_in-joined : (s : ℕ) (f g : Forest) → kids_in s (joined f g) ≡ kids_in s f ++ kids_in s g
kids_in-joined s end g = refl
kids_in-joined s (tree i k r) g = let own = if s == i.1 then tops k else [] in ap (λ l. own ++ (kids_in s k ++ l)) (kids_in-joined s r g) ∙ (ap (λ l. own ++ l) (sym (append_assoc (kids_in s k) (kids_in s r) (kids_in s g))) ∙ sym (append_assoc own (kids_in s k ++ kids_in s r) (kids_in s g)))

-- the children of a node that stands once are the trees below it
pub kids_in-below : (x : Id) (f g : Forest) → stands x.1 f ≤ 1 → below_node x f ≡ Some g → kids_in x.1 f ≡ tops g
kids_in-below x end g once h = absurd (let no : None ≡ Some g = h in cc)
kids_in-below x (tree i k r) g once h = elim (below_node-cases x i k r g h) [
  | here e w ↦
      let at : x.1 ≡ i.1 = ap (λ z. z.1) (sym e) in let one = ap (same_stamp x.1) at in let w1 = stamp-same x.1 in kids_in-here x.1 i k r at ∙ (ap (λ l. tops k ++ (l ++ kids_in x.1 r)) (kids_in-off x.1 k (omega (arith, once, one, w1)))
      ∙ (ap (λ l. tops k ++ l) (kids_in-off x.1 r (omega (arith, once, one, w1))) ∙ (append-nil (tops k) ∙ ap tops w)))
  | down ne w ↦
      let got = below_node-times x k g w x in let one = hit-same x in let lt = stands-times x k in let off : x.1 ≢ i.1 = λ e. let q = ap (same_stamp x.1) (sym e) in let w1 = stamp-same x.1 in absurd (omega (arith, once, q, w1, got, one, lt)) in kids_in-there x.1 i k r off
      ∙ (ap (λ l. kids_in x.1 k ++ l) (kids_in-off x.1 r (omega (arith, once, got, one, lt))) ∙ (append-nil (kids_in x.1 k) ∙ kids_in-below x k g (omega (arith, once)) w))
  | along ne n w ↦
      let got = below_node-times x r g w x in let one = hit-same x in let lt = stands-times x r in let off : x.1 ≢ i.1 = λ e. let q = ap (same_stamp x.1) (sym e) in let w1 = stamp-same x.1 in absurd (omega (arith, once, q, w1, got, one, lt)) in kids_in-there x.1 i k r off
      ∙ (ap (λ l. l ++ kids_in x.1 r) (kids_in-off x.1 k (omega (arith, once, got, one, lt))) ∙ kids_in-below x r g (omega (arith, once)) w)
]

pub below-there : (x : Id) (f g : Forest) → below_node x f ≡ Some g → 0 < times x f
below-there x f g h = let got = below_node-times x f g h x in let one = hit-same x in omega (arith, got, one)

-- after an edit the node has the edited trees
pub below_node-edit : (x : Id) (e : Forest → Forest) (f g : Forest) → below_node x f ≡ Some g → below_node x (edit_node x e f) ≡ Some (e g)
below_node-edit x e end g h = absurd (let no : None ≡ Some g = h in cc)
below_node-edit x e (tree i k r) g h = elim (below_node-cases x i k r g h) [
  | here q w ↦ ap (below_node x) (edit_node-here x i e k r q) ∙ (ap (λ b. if b then Some (e k) else either (below_node x (e k)) (below_node x r)) (ap (λ j. same_id j x) q ∙ same_id-refl x) ∙ ap (λ z. Some (e z)) w)
  | down ne w ↦ ap (below_node x) (edit_node-there x i e k r ne) ∙ (ap (λ b. if b then Some (edit_node x e k) else either (below_node x (edit_node x e k)) (below_node x (edit_node x e r))) (same_id-other i x ne) ∙ ap (λ o. either o (below_node x (edit_node x e r))) (below_node-edit x e k g w))
  | along ne n w ↦ ap (below_node x) (edit_node-there x i e k r ne) ∙ (ap (λ b. if b then Some (edit_node x e k) else either (below_node x (edit_node x e k)) (below_node x (edit_node x e r))) (same_id-other i x ne)
      ∙ (ap (λ z. either (below_node x z) (below_node x (edit_node x e r))) (edit_node-absent x e k (below_node-none x k n)) ∙ (ap (λ o. either o (below_node x (edit_node x e r))) n ∙ below_node-edit x e r g w)))
]

pub tops-edit_node : (x : Id) (e : Forest → Forest) (f : Forest) → tops (edit_node x e f) ≡ tops f
tops-edit_node x e end = refl
tops-edit_node x e (tree i k r) = elim (same_id i x) as (λ b. tops (if b then tree i (e k) r else tree i (edit_node x e k) (edit_node x e r)) ≡ i.1 ∷ tops r) [
  | true ↦ refl
  | false ↦ ap (λ l. i.1 ∷ l) (tops-edit_node x e r)
]

-- the children of another node, where the edit leaves those below the node
pub kids_in-edit : (x : Id) (e : Forest → Forest) (f g : Forest) (s : ℕ) → times x f ≤ 1 → below_node x f ≡ Some g → s ≢ x.1 → kids_in s (e g) ≡ kids_in s g → kids_in s (edit_node x e f) ≡ kids_in s f
kids_in-edit x e end g s once h ne same = refl
kids_in-edit x e (tree i k r) g s once h ne same = elim (below_node-cases x i k r g h) [
  | here q w ↦
      let off : s ≢ i.1 = λ z. ne (z ∙ ap (λ j. j.1) q) in ap (kids_in s) (edit_node-here x i e k r q) ∙ (kids_in-there s i (e k) r off ∙ (ap (λ l. l ++ kids_in s r) (ap (λ z. kids_in s (e z)) w ∙ (same ∙ sym (ap (kids_in s) w))) ∙ sym (kids_in-there s i k r off)))
  | down nx w ↦
      let got = below-there x k g w in ap (kids_in s) (edit_node-there x i e k r nx) ∙ (ap (λ z. (if s == i.1 then tops (edit_node x e k) else []) ++ (kids_in s (edit_node x e k) ++ kids_in s z)) (edit_node-absent x e r (omega (arith, once, got)))
      ∙ (ap (λ l. (if s == i.1 then l else []) ++ (kids_in s (edit_node x e k) ++ kids_in s r)) (tops-edit_node x e k) ∙ ap (λ l. (if s == i.1 then tops k else []) ++ (l ++ kids_in s r)) (kids_in-edit x e k g s (omega (arith, once)) w ne same)))
  | along nx n w ↦
      ap (kids_in s) (edit_node-there x i e k r nx) ∙ (ap (λ z. (if s == i.1 then tops z else []) ++ (kids_in s z ++ kids_in s (edit_node x e r))) (edit_node-absent x e k (below_node-none x k n))
      ∙ ap (λ l. (if s == i.1 then tops k else []) ++ (kids_in s k ++ l)) (kids_in-edit x e r g s (omega (arith, once)) w ne same))
]

-- Cuts by stamps.
abbrev pub tail_of : List ℕ → List ℕ
tail_of [] = []
tail_of (x ∷ xs) = xs

pub head_is : (x y : ℕ) (xs ys : List ℕ) → x ∷ xs ≡ y ∷ ys → x ≡ y
head_is x y xs ys e = ap (λ l. unwrap_or (head_of l) 0) e

pub head_some : (x : ℕ) (back : List ℕ) → head_of back ≡ Some x → back ≡ x ∷ tail_of back
head_some x [] h = absurd (let no : None ≡ Some x = h in cc)
head_some x (b ∷ bs) h = ap (λ z. z ∷ bs) (ap (λ o. unwrap_or o 0) h)

head_none : (back : List ℕ) → head_of back ≡ None → back ≡ []
head_none [] h = refl
head_none (b ∷ bs) h = absurd (let no : Some b ≡ None = h in cc)

-- what is listed among the trees stands there
pub listed-stands : (s : ℕ) (f : Forest) (front back : List ℕ) → tops f ≡ front ++ s ∷ back → 0 < stands s f
listed-stands s end [] back e = absurd (let no : [] ≡ s ∷ back = e in cc)
listed-stands s end (c ∷ cs) back e = absurd (let no : [] ≡ c ∷ (cs ++ s ∷ back) = e in cc)
listed-stands s (tree i k r) [] back e = let at = ap (same_stamp s) (head_is i.1 s (tops r) back e) in let one = stamp-same s in omega (arith, at, one)
listed-stands s (tree i k r) (c ∷ cs) back e = let q = listed-stands s r cs back (ap tail_of e) in omega (arith, q)

-- one of the trees that has a stamp is the first, where the first has it
pub first_is : (x i : Id) (k r : Forest) → 0 < times_top x (tree i k r) → stands x.1 (tree i k r) ≤ 1 → i.1 ≡ x.1 → same_id i x ≡ true
first_is x i k r lt once at = elim (id_cases x i) [
  | inl q ↦ ap (λ j. same_id j x) (sym q) ∙ same_id-refl x
  | inr ne ↦ let z = hit-other x i ne in let w = stands-top x r in let one = ap (same_stamp x.1) at in let v = stamp-same x.1 in absurd (omega (arith, z, w, one, v, lt, once))
]

-- where the next child stands in the list, there stands the cut
pub until-tops : (x : Id) (f : Forest) (front back : List ℕ) → 0 < times_top x f → stands x.1 f ≤ 1 → tops f ≡ front ++ x.1 ∷ back → (tops (until x f) ≡ front) × (tops (from x f) ≡ x.1 ∷ back)
until-tops x end front back lt once e = absurd (omega arith)
until-tops x (tree i k r) [] back lt once e = let t = first_is x i k r lt once (head_is i.1 x.1 (tops r) back e) in (ap (λ b. tops (if b then end else tree i k (until x r))) t, ap (λ b. tops (if b then tree i k r else from x r)) t ∙ e)
until-tops x (tree i k r) (c ∷ cs) back lt once e = let rest : tops r ≡ cs ++ x.1 ∷ back = ap tail_of e in let stood = listed-stands x.1 r cs back rest in
    let ne : i ≢ x = λ q. let one = ap (λ j. same_stamp x.1 j.1) q in let v = stamp-same x.1 in absurd (omega (arith, one, v, stood, once)) in let t = same_id-other i x ne in let z = hit-other x i (λ q. ne (sym q)) in let q = until-tops x r cs back (omega (arith, lt, z)) (omega (arith, once)) rest in
    (ap (λ b. tops (if b then end else tree i k (until x r))) t ∙ (ap (λ l. i.1 ∷ l) q.0 ∙ ap (λ z. z ∷ cs) (head_is i.1 c (tops r) (cs ++ x.1 ∷ back) e)), ap (λ b. tops (if b then tree i k r else from x r)) t ∙ q.1)

pub last_listed : (x : ℕ) (rest back : List ℕ) → (front : List ℕ) × (tail : List ℕ) × (x ∷ (rest ++ back) ≡ front ++ last_from x rest ∷ tail)
last_listed x [] back = ([], back, refl)
last_listed x (y ∷ ys) back = let q = last_listed y ys back in (x ∷ q.0, q.1, ap (λ l. x ∷ l) q.2)

-- where the run ends in the list, there ends what is taken
pub past-tops : (y : Id) (f : Forest) (a : ℕ) (rest back : List ℕ) → 0 < times_top y f → stands y.1 f ≤ 1 → tops f ≡ a ∷ (rest ++ back) → last_from a rest ≡ y.1 → (tops (through y f) ≡ a ∷ rest) × (tops (past y f) ≡ back)
past-tops y end a rest back lt once e last = absurd (omega arith)
past-tops y (tree i k r) a [] back lt once e last = let t = first_is y i k r lt once (head_is i.1 a (tops r) back e ∙ last) in (ap (λ b. tops (if b then tree i k end else tree i k (through y r))) t ∙ ap (λ z. z ∷ []) (head_is i.1 a (tops r) back e), ap (λ b. tops (if b then r else past y r)) t ∙ ap tail_of e)
past-tops y (tree i k r) a (b ∷ bs) back lt once e last = let rest : tops r ≡ b ∷ (bs ++ back) = ap tail_of e in let w = last_listed b bs back in let stood = listed-stands y.1 r w.0 w.1 (rest ∙ (w.2 ∙ ap (λ z. w.0 ++ z ∷ w.1) last)) in
    let ne : i ≢ y = λ q. let one = ap (λ j. same_stamp y.1 j.1) q in let v = stamp-same y.1 in absurd (omega (arith, one, v, stood, once)) in let t = same_id-other i y ne in let z = hit-other y i (λ q. ne (sym q)) in let q = past-tops y r b bs back (omega (arith, lt, z)) (omega (arith, once)) rest last in
    (ap (λ b. tops (if b then tree i k end else tree i k (through y r))) t ∙ (ap (λ l. i.1 ∷ l) q.0 ∙ ap (λ z. z ∷ (b ∷ bs)) (head_is i.1 a (tops r) (b ∷ (bs ++ back)) e)), ap (λ b. tops (if b then r else past y r)) t ∙ q.1)

-- trees put in before the next one
pub put_before-tops : (next : Option Id) (g f : Forest) (front back : List ℕ) → IsAmong next f → ((x : Id) → stands x.1 f ≤ 1) → tops f ≡ front ++ back → head_of back ≡ stamp_of next → tops (put_before next g f) ≡ front ++ (tops g ++ back)
put_before-tops None g f front back among once e h = let none = head_none back h in tops-joined f g ∙ (ap (λ l. l ++ tops g) (e ∙ (ap (λ l. front ++ l) none ∙ append-nil front)) ∙ ap (λ l. front ++ l) (sym (append-nil (tops g)) ∙ ap (λ l. tops g ++ l) (sym none)))
put_before-tops (Some x) g f front back among once e h = let some = head_some x.1 back h in let q = until-tops x f front (tail_of back) among (once x) (e ∙ ap (λ l. front ++ l) some) in tops-joined (until x f) (joined g (from x f))
    ∙ (ap (λ l. l ++ tops (joined g (from x f))) q.0 ∙ ap (λ l. front ++ l) (tops-joined g (from x f) ∙ ap (λ l. tops g ++ l) (q.1 ∙ sym some)))

-- the same as a function on lists
pub put_before-placed : (next : Option Id) (i : Id) (f : Forest) → IsAmong next f → ((x : Id) → stands x.1 f ≤ 1) → tops (put_before next (leaf i) f) ≡ placed (stamp_of next) i.1 (tops f)
put_before-placed None i f among once = tops-joined f (leaf i)
put_before-placed (Some x) i f among once = at f among (once x)
  where
    at : (f : Forest) → 0 < times_top x f → stands x.1 f ≤ 1 → tops (joined (until x f) (joined (leaf i) (from x f))) ≡ placed (Some x.1) i.1 (tops f)
    at end lt once = refl
    at (tree j k r) lt once = elim (cases_eq j.1 x.1) [
      | inl e ↦
          let t = first_is x j k r lt once e in ap (λ b. tops (joined (if b then end else tree j k (until x r)) (joined (leaf i) (if b then tree j k r else from x r)))) t ∙ sym (ap (λ b. if b then i.1 ∷ (j.1 ∷ tops r) else j.1 ∷ placed (Some x.1) i.1 (tops r)) (test-same j.1 x.1 e))
      | inr ne ↦
          let off : j ≢ x = λ q. ne (ap (λ z. z.1) q) in let t = same_id-other j x off in let z = hit-other x j (λ q. off (sym q)) in
          ap (λ b. tops (joined (if b then end else tree j k (until x r)) (joined (leaf i) (if b then tree j k r else from x r)))) t ∙ (ap (λ l. j.1 ∷ l) (at r (omega (arith, lt, z)) (omega (arith, once)))
          ∙ sym (ap (λ b. if b then i.1 ∷ (j.1 ∷ tops r) else j.1 ∷ placed (Some x.1) i.1 (tops r)) (test-other j.1 x.1 ne)))
    ]

pub without-tops : (x y : Id) (f : Forest) (front rest back : List ℕ) → IsRun x y f → ((z : Id) → stands z.1 f ≤ 1) → tops f ≡ front ++ ((x.1 ∷ rest) ++ back) → last_from x.1 rest ≡ y.1 → (tops (without x y f) ≡ front ++ back) × (tops (run x y f) ≡ x.1 ∷ rest)
without-tops x y f front rest back is once e last = let q = until-tops x f front (rest ++ back) is.starts (once x) e in let split : stands y.1 f ≡ stands y.1 (until x f) + stands y.1 (from x f) = ap (stands y.1) (sym (until-from x f)) ∙ stands-joined y.1 (until x f) (from x f) in let o = once y in
    let w = past-tops y (from x f) x.1 rest back is.ends (omega (arith, split, o)) q.1 last in (tops-joined (until x f) (past y (from x f)) ∙ (ap (λ l. l ++ tops (past y (from x f))) q.0 ∙ ap (λ l. front ++ l) w.1), w.0)

-- Counts and children after each list operation.
pub kids_in-leaf : (s : ℕ) (i : Id) → kids_in s (leaf i) ≡ []
kids_in-leaf s i = elim (s == i.1) as (λ b. ◌++◌ {A = ℕ} (if b then [] else []) [] ≡ []) [ true ↦ refl | false ↦ refl ]

-- trees that are put in beside others: of a stamp that stands in one of the two alone
pub kids_in-beside : (s : ℕ) (next : Option Id) (g f : Forest) → kids_in s g ≡ [] → kids_in s (put_before next g f) ≡ kids_in s f
kids_in-beside s None g f none = kids_in-joined s f g ∙ (ap (λ l. kids_in s f ++ l) none ∙ append-nil (kids_in s f))
kids_in-beside s (Some x) g f none = kids_in-joined s (until x f) (joined g (from x f)) ∙ (ap (λ l. kids_in s (until x f) ++ l) (kids_in-joined s g (from x f) ∙ ap (λ l. l ++ kids_in s (from x f)) none) ∙ (sym (kids_in-joined s (until x f) (from x f)) ∙ ap (kids_in s) (until-from x f)))

pub kids_in-amid : (s : ℕ) (next : Option Id) (g f : Forest) → stands s f ≡ 0 → kids_in s (put_before next g f) ≡ kids_in s g
kids_in-amid s None g f off = kids_in-joined s f g ∙ ap (λ l. l ++ kids_in s g) (kids_in-off s f off)
kids_in-amid s (Some x) g f off = let d = stands-joined s (until x f) (from x f) in let e = ap (stands s) (until-from x f) in kids_in-joined s (until x f) (joined g (from x f)) ∙ (ap (λ l. l ++ kids_in s (joined g (from x f))) (kids_in-off s (until x f) (omega (arith, off, d, e)))
    ∙ (kids_in-joined s g (from x f) ∙ (ap (λ l. kids_in s g ++ l) (kids_in-off s (from x f) (omega (arith, off, d, e))) ∙ append-nil (kids_in s g))))

pub kids_in-without : (s : ℕ) (x y : Id) (f : Forest) → stands s (run x y f) ≡ 0 → kids_in s (without x y f) ≡ kids_in s f
kids_in-without s x y f off = kids_in-joined s (until x f) (past y (from x f)) ∙ (ap (λ l. kids_in s (until x f) ++ (l ++ kids_in s (past y (from x f)))) (sym (kids_in-off s (run x y f) off))
    ∙ (ap (λ l. kids_in s (until x f) ++ l) (sym (kids_in-joined s (run x y f) (past y (from x f))) ∙ ap (kids_in s) (through-past y (from x f))) ∙ (sym (kids_in-joined s (until x f) (from x f)) ∙ ap (kids_in s) (until-from x f))))

pub stands-without : (s : ℕ) (x y : Id) (f : Forest) → stands s (without x y f) + stands s (run x y f) ≡ stands s f
stands-without s x y f = let a = stands-joined s (until x f) (past y (from x f)) in let b = stands-joined s (run x y f) (past y (from x f)) in let c = ap (stands s) (through-past y (from x f)) in let d = stands-joined s (until x f) (from x f) in let e = ap (stands s) (until-from x f) in omega (arith, a, b, c, d, e)

pub stands-put_before : (s : ℕ) (next : Option Id) (g f : Forest) → stands s (put_before next g f) ≡ stands s f + stands s g
stands-put_before s None g f = stands-joined s f g
stands-put_before s (Some x) g f = let a = stands-joined s (until x f) (joined g (from x f)) in let b = stands-joined s g (from x f) in let d = stands-joined s (until x f) (from x f) in let e = ap (stands s) (until-from x f) in omega (arith, a, b, d, e)

pub stands-below : (x : Id) (f g : Forest) (s : ℕ) → below_node x f ≡ Some g → same_stamp s x.1 + stands s g ≤ stands s f
stands-below x end g s h = absurd (let no : None ≡ Some g = h in cc)
stands-below x (tree i k r) g s h = elim (below_node-cases x i k r g h) [
  | here e w ↦ let at = ap (λ j. same_stamp s j.1) e in let rest = ap (stands s) w in omega (arith, at, rest)
  | down ne w ↦ omega (arith, stands-below x k g s w)
  | along ne n w ↦ omega (arith, stands-below x r g s w)
]

pub stands-edit : (x : Id) (e : Forest → Forest) (f g : Forest) (s : ℕ) → times x f ≤ 1 → below_node x f ≡ Some g → stands s (edit_node x e f) + stands s g ≡ stands s f + stands s (e g)
stands-edit x e end g s once h = absurd (let no : None ≡ Some g = h in cc)
stands-edit x e (tree i k r) g s once h = elim (below_node-cases x i k r g h) [
  | here q w ↦ let now = ap (stands s) (edit_node-here x i e k r q) in let is = ap (stands s) w in let ise = ap (λ z. stands s (e z)) w in omega (arith, now, is, ise)
  | down ne w ↦
      let now = ap (stands s) (edit_node-there x i e k r ne) in let got = below-there x k g w in let rest = ap (stands s) (edit_node-absent x e r (omega (arith, once, got))) in let step = stands-edit x e k g s (omega (arith, once)) w in omega (arith, now, rest, step)
  | along ne n w ↦
      let now = ap (stands s) (edit_node-there x i e k r ne) in let rest = ap (stands s) (edit_node-absent x e k (below_node-none x k n)) in let step = stands-edit x e r g s (omega (arith, once)) w in omega (arith, now, rest, step)
]

pub kids_in-moved : (s : ℕ) (x y : Id) (next : Option Id) (f : Forest) → stands s f ≤ 1 → kids_in s (moved x y next f) ≡ kids_in s f
kids_in-moved s x y next f once = elim (cases_lt 0 (stands s (run x y f))) [
  | inl lt ↦
      let w = stands-without s x y f in let off : stands s (without x y f) ≡ 0 = omega (arith, w, lt, once) in let a = stands-joined s (until x f) (past y (from x f)) in kids_in-amid s next (run x y f) (without x y f) off
      ∙ sym (sym (ap (kids_in s) (until-from x f)) ∙ (kids_in-joined s (until x f) (from x f) ∙ (ap (λ l. l ++ kids_in s (from x f)) (kids_in-off s (until x f) (omega (arith, off, a))) ∙ (sym (ap (kids_in s) (through-past y (from x f)))
      ∙ (kids_in-joined s (run x y f) (past y (from x f)) ∙ (ap (λ l. kids_in s (run x y f) ++ l) (kids_in-off s (past y (from x f)) (omega (arith, off, a))) ∙ append-nil (kids_in s (run x y f))))))))
  | inr off ↦
      let none : stands s (run x y f) ≡ 0 = omega (arith, off) in kids_in-beside s next (run x y f) (without x y f) (kids_in-off s (run x y f) none) ∙ kids_in-without s x y f none
]

-- The whole forest, after the children of a parent were edited.
pub record Edits (p : Option Id) (e : Forest → Forest) (f g : Forest) : Type 0 where
  pub was : kids (stamp_of p) f ≡ tops g
  pub is : kids (stamp_of p) (edit p e f) ≡ tops (e g)
  pub others : (q : Option ℕ) → q ≢ stamp_of p → ((s : ℕ) → q ≡ Some s → kids_in s (e g) ≡ kids_in s g) → kids q (edit p e f) ≡ kids q f
  pub counts : (s : ℕ) → stands s (edit p e f) + stands s g ≡ stands s f + stands s (e g)
  pub within : (s : ℕ) → stands s g ≤ stands s f

pub edits : (p : Option Id) (e : Forest → Forest) (f g : Forest) → below p f ≡ Some g → ((i : Id) → times i f ≤ 1) → ((s : ℕ) → stands s f ≤ 1) → ((s : ℕ) → (x : Id) → p ≡ Some x → s ≡ x.1 → stands s (e g) ≡ 0) → Edits p e f g
edits None e f g h once single off = let same : f ≡ g = some_same f g h in record {
  was = ap tops same;
  is = ap (λ z. tops (e z)) same;
  others = λ q ne keep. by_case q ne keep same;
  counts = λ s. let a = ap (λ z. stands s (e z)) same in let b = ap (stands s) same in omega (arith, a, b);
  within = λ s. let b = ap (stands s) same in omega (arith, b);
}
  where
    by_case : (q : Option ℕ) → q ≢ None → ((s : ℕ) → q ≡ Some s → kids_in s (e g) ≡ kids_in s g) → f ≡ g → kids q (e f) ≡ kids q f
    by_case None ne keep same = absurd (ne refl)
    by_case (Some s) ne keep same = ap (λ z. kids_in s (e z)) same ∙ (keep s refl ∙ ap (kids_in s) (sym same))
edits (Some x) e f g h once single off = record {
  was = kids_in-below x f g (single x.1) h;
  is = kids_in-below x (edit_node x e f) (e g) (let a = stands-edit x e f g x.1 (once x) h in let b = off x.1 x refl refl in let o = single x.1 in omega (arith, a, b, o)) (below_node-edit x e f g h);
  others = λ q ne keep. by_case q ne keep;
  counts = λ s. stands-edit x e f g s (once x) h;
  within = λ s. let b = stands-below x f g s h in omega (arith, b);
}
  where
    by_case : (q : Option ℕ) → q ≢ Some x.1 → ((s : ℕ) → q ≡ Some s → kids_in s (e g) ≡ kids_in s g) → kids q (edit_node x e f) ≡ kids q f
    by_case None ne keep = tops-edit_node x e f
    by_case (Some s) ne keep = kids_in-edit x e f g s (once x) h (λ z. ne (ap Some z)) (keep s refl)
