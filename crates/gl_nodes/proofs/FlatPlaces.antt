-- The conditions of the calls, from flat look-ups.
use Rattle.std.proofs.Common.{◌≡◌, ℕ, ◌+◌, ◌<◌, ◌≤◌, List, [], ◌∷◌, ◌++◌, Option, Some, None, IsSome, is_some, true, false, refl, sym, ap, ◌∙◌, arith}
use Rattle.std.specs.Prelude.{if◌then◌else◌}
use Rattle.gl_arena.specs.Id.{Id, same_id}
use Rattle.gl_arena.specs.Arena.{named, IsOwn}
use Rattle.gl_arena.proofs.Stamps.{own_same, own_live}
use Rattle.gl_nodes.specs.Node.{Node, IsElement}
use Rattle.gl_nodes.specs.Forest.{Forest, end, tree, hit, times, times_top, below, below_node, until, from, through, past, without, IsAmong, IsRun}
use Rattle.gl_nodes.specs.Tree.{Tree, node_at, IsMade, IsPlace, ParentIsElement, CanMove, CanRemove}
use Rattle.gl_nodes.specs.Flat.{stands, tops, children, node_by, last_from, stamp_of, IsFlat, Stands, Listed}
use Rattle.gl_nodes.proofs.Counts.{hit-same, below_node-none, below_node-times, times_top-le, times_top-joined}
use Rattle.gl_nodes.proofs.Cutting.{until-from, through-past}
use Rattle.gl_nodes.proofs.Flats.{stands-times, stands-id, stands-below, kids_in-below, until-tops, without-tops, last_listed, head_is, head_some, tail_of}

pub own_of : (t : Tree) (i : Id) → IsFlat t → IsSome (node_at t i) → IsOwn t.nodes i
own_of t i flat live = by_case (named t.nodes i) refl live
  where
    by_case : (o : Option Node) → named t.nodes i ≡ o → IsSome o → IsOwn t.nodes i
    by_case None e s = absurd (let no : false ≡ true = s in cc)
    by_case (Some v) e s = own_live t.nodes i v flat.stamped e

from-top : (x i : Id) (f : Forest) → times_top i (from x f) ≤ times_top i f
from-top x i end = omega arith
from-top x i (tree j k r) = elim (same_id j x) as (λ b. times_top i (if b then tree j k r else from x r) ≤ hit i j + times_top i r) [
  | true ↦ omega arith
  | false ↦ let q = from-top x i r in omega (arith, q)
]

-- an own id of a node that stands there is the id that stands there
pub stands_own : (t : Tree) (i : Id) → IsFlat t → IsOwn t.nodes i → 0 < stands i.1 t.forest → 0 < times i t.forest
stands_own t i flat own lt = let q = stands-id i.1 t.forest lt in let live = flat.sound.live q.0 q.2 in let oq : IsOwn t.nodes q.0 = own_of t q.0 flat live in let same = own_same t.nodes i q.0 flat.stamped own oq live (sym q.1) in let at = ap (λ j. times j t.forest) same in let on = q.2 in omega (arith, at, on)

pub made_by : (t : Tree) (i : Id) (n : Node) → IsOwn t.nodes i → node_by t i.1 ≡ Some n → stands i.1 t.forest ≡ 0 → IsMade i t
made_by t i n own is off = record { live = ap is_some (own.same ∙ is); out = let le = stands-times i t.forest in omega (arith, le, off) }

pub element_by : (t : Tree) (p : Id) (n : Node) → IsOwn t.nodes p → node_by t p.1 ≡ Some n → IsElement n → ParentIsElement t (Some p)
element_by t p n own is e = (n, own.same ∙ is, e)

-- a stamp that is listed is that of one of the trees
listed_top : (s : ℕ) (f : Forest) (front back : List ℕ) → tops f ≡ front ++ s ∷ back → (i : Id) × (i.1 ≡ s) × (0 < times_top i f)
listed_top s end [] back e = absurd (let no : [] ≡ s ∷ back = e in cc)
listed_top s end (c ∷ cs) back e = absurd (let no : [] ≡ c ∷ (cs ++ s ∷ back) = e in cc)
listed_top s (tree i k r) [] back e = (i, head_is i.1 s (tops r) back e, let one = hit-same i in omega (arith, one))
listed_top s (tree i k r) (c ∷ cs) back e = let q = listed_top s r cs back (ap tail_of e) in (q.0, q.1, let w = q.2 in omega (arith, w))

-- what stands below a parent that stands in the forest, with its stamps
pub record Below (t : Tree) (p : Option Id) : Type 0 where
  pub kids : Forest
  pub is : below p t.forest ≡ Some kids
  pub listed : children t (stamp_of p) ≡ tops kids
  pub within : (i : Id) → times i kids ≤ times i t.forest
  pub once : (s : ℕ) → stands s kids ≤ 1

pub below_by : (t : Tree) (p : Option Id) → IsFlat t → Stands t p → Below t p
below_by t None flat h = record { kids = t.forest; is = refl; listed = refl; within = λ i. omega arith; once = flat.once }
below_by t (Some p) flat h = by_case (below_node p t.forest) refl
  where
    by_case : (o : Option Forest) → below_node p t.forest ≡ o → Below t (Some p)
    by_case None e = let on = stands_own t p flat h.0 h.1 in let off = below_node-none p t.forest e in absurd (omega (arith, on, off))
    by_case (Some g) e = record {
      kids = g;
      is = e;
      listed = kids_in-below p t.forest g (flat.once p.1) e;
      within = λ i. let w = below_node-times p t.forest g e i in omega (arith, w);
      once = λ s. let w = stands-below p t.forest g s e in let o = flat.once s in omega (arith, w, o);
    }

-- an own id whose stamp is listed is among them
pub among_by : (t : Tree) (p : Option Id) (x : Id) (b : Below t p) → IsFlat t → IsOwn t.nodes x → (g : Forest) → ((i : Id) → times_top i g ≤ times_top i b.kids) → (front back : List ℕ) → tops g ≡ front ++ x.1 ∷ back → 0 < times_top x g
among_by t p x b flat own g part front back e = let q = listed_top x.1 g front back e in let on : 0 < times q.0 t.forest = let a = q.2 in let c = part q.0 in let d = times_top-le q.0 b.kids in let w = b.within q.0 in omega (arith, a, c, d, w) in let live = flat.sound.live q.0 on in
    let same = own_same t.nodes x q.0 flat.stamped own (own_of t q.0 flat live) live (sym q.1) in let at = ap (λ j. times_top j g) same in let a = q.2 in omega (arith, at, a)

-- insert_before's place
pub place_by : (t : Tree) (p next : Option Id) (front back : List ℕ) → IsFlat t → Stands t p → children t (stamp_of p) ≡ front ++ back → Listed t next front back → IsPlace t p next
place_by t p next front back flat h e l = let b = below_by t p flat h in record { kids = b.kids; is_below = b.is; among = by_next next l b }
  where
    by_next : (n : Option Id) → Listed t n front back → (b : Below t p) → IsAmong n b.kids
    by_next None l b = tt
    by_next (Some x) l b = among_by t p x b flat l.0 b.kids (λ i. omega arith) front (tail_of back) (sym b.listed ∙ (e ∙ ap (λ z. front ++ z) (head_some x.1 back l.1)))

-- a run of own ids, in what stands below a parent
is_run_by : (t : Tree) (p : Option Id) (x y : Id) (front rest back : List ℕ) (b : Below t p) → IsFlat t → IsOwn t.nodes x → IsOwn t.nodes y → children t (stamp_of p) ≡ front ++ ((x.1 ∷ rest) ++ back) → last_from x.1 rest ≡ y.1 → IsRun x y b.kids
is_run_by t p x y front rest back b flat ox oy e last =
    let starts = among_by t p x b flat ox b.kids (λ i. omega arith) front (rest ++ back) (sym b.listed ∙ e) in
    let cut = until-tops x b.kids front (rest ++ back) starts (b.once x.1) (sym b.listed ∙ e) in
    let w = last_listed x.1 rest back in
    let ends = among_by t p y b flat oy (from x b.kids) (λ i. from-top x i b.kids) w.0 w.1 (cut.1 ∙ (w.2 ∙ ap (λ z. w.0 ++ z ∷ w.1) last)) in
    record { starts = starts; ends = ends }

-- remove_range's run
pub run_by : (t : Tree) (p : Option Id) (x y : Id) (front rest back : List ℕ) → IsFlat t → Stands t p → IsOwn t.nodes x → IsOwn t.nodes y → children t (stamp_of p) ≡ front ++ ((x.1 ∷ rest) ++ back) → last_from x.1 rest ≡ y.1 → CanRemove t.forest (Some (x, y))
run_by t p x y front rest back flat h ox oy e last = let b = below_by t p flat h in (p, b.kids, b.is, is_run_by t p x y front rest back b flat ox oy e last)

without-top : (x y i : Id) (f : Forest) → times_top i (without x y f) ≤ times_top i f
without-top x y i f =
    let a = times_top-joined i (until x f) (past y (from x f)) in
    let b = times_top-joined i (through y (from x f)) (past y (from x f)) in
    let c = ap (times_top i) (through-past y (from x f)) in
    let d = times_top-joined i (until x f) (from x f) in
    let e = ap (times_top i) (until-from x f) in
    omega (arith, a, b, c, d, e)

-- move_range's run and place: the next is an own id of one of the others
pub move_by : (t : Tree) (p next : Option Id) (x y : Id) (front rest back front' back' : List ℕ) → IsFlat t → Stands t p → IsOwn t.nodes x → IsOwn t.nodes y
    → children t (stamp_of p) ≡ front ++ ((x.1 ∷ rest) ++ back) → last_from x.1 rest ≡ y.1 → front ++ back ≡ front' ++ back' → Listed t next front' back' → CanMove t.forest (Some (x, y)) next
move_by t p next x y front rest back front' back' flat h ox oy e last cut l =
    let b = below_by t p flat h in
    let is = is_run_by t p x y front rest back b flat ox oy e last in
    let left = (without-tops x y b.kids front rest back is (λ z. b.once z.1) (sym b.listed ∙ e) last).0 in
    (p, b.kids, b.is, is, by_next next l b (left ∙ cut))
  where
    by_next : (n : Option Id) → Listed t n front' back' → (b : Below t p) → tops (without x y b.kids) ≡ front' ++ back' → IsAmong n (without x y b.kids)
    by_next None l b at = tt
    by_next (Some z) l b at = among_by t p z b flat l.0 (without x y b.kids) (λ i. without-top x y i b.kids) front' (tail_of back') (at ∙ ap (λ w. front' ++ w) (head_some z.1 back' l.1))
