-- The forest is what its flat look-ups give.
use Rattle.std.proofs.Common.{◌≡◌, ◌≢◌, ℕ, zero, suc, ◌+◌, ◌<◌, ◌≤◌, List, [], ◌∷◌, ◌++◌, Option, Some, None, refl, sym, ap, subst, ◌∙◌, arith, append-nil}
use Rattle.gl_arena.specs.Id.{Id}
use Rattle.gl_nodes.specs.Forest.{Forest, end, tree, joined, size, below, below_node, until, from, through, past, run, IsRun}
use Rattle.gl_nodes.specs.Tree.{Tree}
use Rattle.gl_nodes.specs.Flat.{same_stamp, stands, tops, kids_in, children, last_from, IsFlat, order, IsRead, walked, bare}
use Rattle.gl_nodes.proofs.Flats.{stamp-same, kids_in-here, kids_in-there, kids_in-off, head_is, tail_of, without-tops}
use Rattle.gl_nodes.proofs.Counts.{some_same, here, down, along, below_node-cases}
use Rattle.gl_nodes.proofs.Cutting.{until-from, through-past}

-- a look-up that says the same of each node of a forest
pub IsRead-same : (l m : ℕ → List ℕ) (f : Forest) → ((s : ℕ) → 0 < stands s f → m s ≡ l s) → IsRead l f → IsRead m f
IsRead-same l m end same h = tt
IsRead-same l m (tree i k r) same h = (
  same i.1 (let one = stamp-same i.1 in omega (arith, one)) ∙ h.0,
  IsRead-same l m k (λ s lt. same s (omega (arith, lt))) h.1,
  IsRead-same l m r (λ s lt. same s (omega (arith, lt))) h.2,
)

pub IsRead-kids_in : (f : Forest) → ((s : ℕ) → stands s f ≤ 1) → IsRead (λ s. kids_in s f) f
IsRead-kids_in end once = tt
IsRead-kids_in (tree i k r) once = let one = stamp-same i.1 in let o = once i.1 in let off : (s : ℕ) → 0 < stands s k + stands s r → s ≢ i.1 = λ s lt e. let q = ap (same_stamp s) (sym e) in let w = stamp-same s in let o = once s in absurd (omega (arith, q, w, o, lt)) in (
  kids_in-here i.1 i k r refl ∙ (ap (λ l. tops k ++ (l ++ kids_in i.1 r)) (kids_in-off i.1 k (omega (arith, one, o))) ∙ (ap (λ l. tops k ++ l) (kids_in-off i.1 r (omega (arith, one, o))) ∙ append-nil (tops k))),
  IsRead-same (λ s. kids_in s k) (λ s. kids_in s (tree i k r)) k
      (λ s lt. kids_in-there s i k r (off s (omega (arith, lt))) ∙ (ap (λ l. kids_in s k ++ l) (kids_in-off s r (let o = once s in omega (arith, o, lt))) ∙ append-nil (kids_in s k)))
      (IsRead-kids_in k (λ s. let o = once s in omega (arith, o))),
  IsRead-same (λ s. kids_in s r) (λ s. kids_in s (tree i k r)) r
      (λ s lt. kids_in-there s i k r (off s (omega (arith, lt))) ∙ ap (λ l. l ++ kids_in s r) (kids_in-off s k (let o = once s in omega (arith, o, lt))))
      (IsRead-kids_in r (λ s. let o = once s in omega (arith, o))),
)

-- the law of the tree's own look-ups
pub tree_is_read : (t : Tree) → IsFlat t → IsRead (λ s. children t (Some s)) t.forest
tree_is_read t flat = IsRead-kids_in t.forest flat.once

-- document order is the recursion over children
pub walked-order : (l : ℕ → List ℕ) (n : ℕ) (f : Forest) → IsRead l f → size f ≤ n → walked l n (tops f) ≡ order f
walked-order l zero end h le = refl
walked-order l zero (tree i k r) h le = absurd (omega (arith, le))
walked-order l (suc n) end h le = refl
walked-order l (suc n) (tree i k r) h le = ap (λ z. i.1 ∷ (walked l n z ++ walked l n (tops r))) h.0 ∙ (ap (λ z. i.1 ∷ (z ++ walked l n (tops r))) (walked-order l n k h.1 (omega (arith, le))) ∙ ap (λ z. i.1 ∷ (order k ++ z)) (walked-order l n r h.2 (omega (arith, le))))

pub tree_order : (t : Tree) → IsFlat t → walked (λ s. children t (Some s)) (size t.forest) (children t None) ≡ order t.forest
tree_order t flat = walked-order (λ s. children t (Some s)) (size t.forest) t.forest (tree_is_read t flat) (omega arith)

-- one look-up has one forest: so a nested tree whose children are those of the look-up is the forest
pub read-one : (l : ℕ → List ℕ) (f g : Forest) → IsRead l f → IsRead l g → tops f ≡ tops g → bare f ≡ bare g
read-one l end end h w e = refl
read-one l end (tree j m s) h w e = absurd (let no : [] ≡ j.1 ∷ tops s = e in cc)
read-one l (tree i k r) end h w e = absurd (let no : i.1 ∷ tops r ≡ [] = e in cc)
read-one l (tree i k r) (tree j m s) h w e = let at : i.1 ≡ j.1 = head_is i.1 j.1 (tops r) (tops s) e in let below = read-one l k m h.1 w.1 (sym h.0 ∙ (ap l at ∙ w.0)) in let after = read-one l r s h.2 w.2 (ap tail_of e) in λ t. tree (0, at t) (below t) (after t)

pub order-bare : (f : Forest) → order (bare f) ≡ order f
order-bare end = refl
order-bare (tree i k r) = ap (λ z. i.1 ∷ (z ++ order (bare r))) (order-bare k) ∙ ap (λ z. i.1 ∷ (order k ++ z)) (order-bare r)

pub stands-bare : (s : ℕ) (f : Forest) → stands s (bare f) ≡ stands s f
stands-bare s end = refl
stands-bare s (tree i k r) = let a = stands-bare s k in let b = stands-bare s r in omega (arith, a, b)

-- Parts of the forest.
pub IsRead-joined : (l : ℕ → List ℕ) (f g : Forest) → IsRead l (joined f g) → IsRead l f × IsRead l g
IsRead-joined l end g h = (tt, h)
IsRead-joined l (tree i k r) g h = let q = IsRead-joined l r g h.2 in ((h.0, h.1, q.0), q.1)

pub IsRead-below : (l : ℕ → List ℕ) (p : Option Id) (f g : Forest) → below p f ≡ Some g → IsRead l f → IsRead l g
IsRead-below l None f g e h = subst (IsRead l) (some_same f g e) h
IsRead-below l (Some x) f g e h = inside f e h
  where
    inside : (f : Forest) → below_node x f ≡ Some g → IsRead l f → IsRead l g
    inside end e h = absurd (let no : None ≡ Some g = e in cc)
    inside (tree i k r) e h = elim (below_node-cases x i k r g e) [
      | here q w ↦ subst (IsRead l) w h.1
      | down ne w ↦ inside k w h.1
      | along ne n w ↦ inside r w h.2
    ]

pub IsRead-run : (l : ℕ → List ℕ) (x y : Id) (g : Forest) → IsRead l g → IsRead l (run x y g)
IsRead-run l x y g h = let tail = (IsRead-joined l (until x g) (from x g) (subst (IsRead l) (sym (until-from x g)) h)).1 in (IsRead-joined l (through y (from x g)) (past y (from x g)) (subst (IsRead l) (sym (through-past y (from x g))) tail)).0

-- what a caller knows to stand in a run, by its own nested tree, is what stands there: so what goes is counted by the caller
pub run-is : (t : Tree) (p : Option Id) (x y : Id) (g part : Forest) (front rest back : List ℕ) → IsFlat t → below p t.forest ≡ Some g → IsRun x y g → ((z : Id) → stands z.1 g ≤ 1)
    → tops g ≡ front ++ ((x.1 ∷ rest) ++ back) → last_from x.1 rest ≡ y.1 → IsRead (λ s. children t (Some s)) part → tops part ≡ x.1 ∷ rest → (s : ℕ) → stands s (run x y g) ≡ stands s part
run-is t p x y g part front rest back flat h is once e last read top s = let l : ℕ → List ℕ = λ s. children t (Some s) in let mine = IsRead-run l x y g (IsRead-below l p t.forest g h (tree_is_read t flat)) in
    let same = read-one l (run x y g) part mine read ((without-tops x y g front rest back is once e last).1 ∙ sym top) in sym (stands-bare s (run x y g)) ∙ (ap (stands s) same ∙ stands-bare s part)
