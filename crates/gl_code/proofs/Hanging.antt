-- Nests of nodes that are hung into a tree one after another.
use Rattle.std.proofs.Common.{◌≡◌, ◌≢◌, ℕ, ◌+◌, ◌<◌, [], ◌∷◌, ◌++◌, Option, Some, None, refl, sym, ap, subst, ◌∙◌, arith, append_assoc, append-nil}
use Rattle.std.specs.Prelude.{unwrap_or}
use Rattle.gl_arena.specs.Id.{Id}
use Rattle.gl_nodes.specs.Forest as f
use Rattle.gl_nodes.specs.Tree.{Tree}
use Rattle.gl_nodes.specs.Flat as t
use Rattle.gl_nodes.specs.Flat.{stands, children, IsFlat, IsRead, PutsLast}
use Rattle.gl_nodes.proofs.Flats.{stamp-same, stamp-other, kids_in-off, head_is, tail_of}
use Rattle.gl_nodes.proofs.Orders.{tree_is_read}
use Rattle.gl_machine.specs.Shape.{Nest, end, tree, joined, leaf}
use Rattle.gl_code.specs.Hung.{tops, stands_in, Hung, Hangs, nest_of}

tops-joined : (x y : Nest ℕ) → tops (joined x y) ≡ tops x ++ tops y
tops-joined end y = refl
tops-joined (tree s k r) y = ap (λ l. s ∷ l) (tops-joined r y)

stands_in-joined : (q : ℕ) (x y : Nest ℕ) → stands_in q (joined x y) ≡ stands_in q x + stands_in q y
stands_in-joined q end y = omega arith
stands_in-joined q (tree s k r) y = let e = stands_in-joined q r y in omega (arith, e)

Hung-joined : (v : Tree) (x y : Nest ℕ) → Hung v x → Hung v y → Hung v (joined x y)
Hung-joined v end y a b = b
Hung-joined v (tree s k r) y a b = (a.0, a.1, Hung-joined v r y a.2 b)

Hung-same : (u v : Tree) (x : Nest ℕ) → ((s : ℕ) → 0 < stands_in s x → children v (Some s) ≡ children u (Some s)) → Hung u x → Hung v x
Hung-same u v end same a = tt
Hung-same u v (tree s k r) same a = (
  same s (let one = stamp-same s in omega (arith, one)) ∙ a.0,
  Hung-same u v k (λ q lt. same q (omega (arith, lt))) a.1,
  Hung-same u v r (λ q lt. same q (omega (arith, lt))) a.2,
)

-- a fact of one number is that of another which is the same
at_some : (x : Nest ℕ) (s q : ℕ) → Some s ≡ Some q → stands_in s x ≡ 0 → stands_in q x ≡ 0
at_some x s q e off = ap (λ o. stands_in (unwrap_or o 0) x) (sym e) ∙ off

pub hangs_nothing : (v : Tree) (p : Option ℕ) → Hangs v v p end
hangs_nothing v p = record {
  top = sym (append-nil (children v p));
  below = tt;
  others = λ q ne off. refl;
  counts = λ s. omega arith;
  out = λ s lt. absurd (omega (arith, lt));
  parent = λ s e. refl;
  nodes = refl;
}

-- one nest after another
pub hangs_joined : (old mid new : Tree) (p : Option ℕ) (x y : Nest ℕ) → IsFlat new → Hangs old mid p x → Hangs mid new p y → Hangs old new p (joined x y)
hangs_joined old mid new p x y flat a b = record {
  top = b.top ∙ (ap (λ l. l ++ tops y) a.top ∙ (append_assoc (children old p) (tops x) (tops y) ∙ ap (λ l. children old p ++ l) (sym (tops-joined x y))));
  below = Hung-joined new x y (Hung-same mid new x (λ s lt. b.others (Some s) (not_parent s lt) (λ q e. at_some y s q e (gone s lt))) a.below) b.below;
  others = λ q ne off. b.others q ne (λ s e. let o = off s e in let w = stands_in-joined s x y in omega (arith, o, w)) ∙ a.others q ne (λ s e. let o = off s e in let w = stands_in-joined s x y in omega (arith, o, w));
  counts = λ s. let c = a.counts s in let d = b.counts s in let w = stands_in-joined s x y in omega (arith, c, d, w);
  out = λ s lt. let c = a.counts s in let d = b.counts s in let w = stands_in-joined s x y in let o = flat.once s in omega (arith, c, d, w, o, lt);
  parent = λ s e. let c = a.parent s e in let d = b.parent s e in let w = stands_in-joined s x y in omega (arith, c, d, w);
  nodes = b.nodes ∙ a.nodes;
}
  where
    not_parent : (s : ℕ) → 0 < stands_in s x → Some s ≢ p
    not_parent s lt e = let c = a.parent s (sym e) in absurd (omega (arith, c, lt))

    gone : (s : ℕ) → 0 < stands_in s x → stands_in s y ≡ 0
    gone s lt = let c = a.counts s in let d = b.counts s in let o = flat.once s in omega (arith, c, d, o, lt)

-- a node is put in, and after it those that are to stand in it
pub hangs_tree : (old mid new : Tree) (p : Option ℕ) (s : ℕ) (k : Nest ℕ) → IsFlat new → PutsLast old mid p s → Hangs mid new (Some s) k → Hangs old new p (tree s k end)
hangs_tree old mid new p s k flat a b = record {
  top = b.others p not_node free ∙ a.puts.is;
  below = (b.top ∙ ap (λ l. l ++ tops k) (a.puts.others (Some s) (λ e. not_node (sym e)) ∙ kids_in-off s old.forest a.out), b.below, tt);
  others = λ q ne off. b.others q (λ e. let o = off s e in let one = stamp-same s in absurd (omega (arith, o, one))) (λ z e. let o = off z e in omega (arith, o)) ∙ a.puts.others q ne;
  counts = λ q. let c = a.puts.counts q in let d = b.counts q in omega (arith, c, d);
  out = λ q lt. let c = a.puts.counts q in let d = b.counts q in let o = flat.once q in omega (arith, c, d, o, lt);
  parent = λ q e. let c = free q e in let d = stamp-other q s (λ w. not_node (e ∙ ap Some w)) in omega (arith, c, d);
  nodes = b.nodes ∙ a.puts.nodes;
}
  where
    not_node : p ≢ Some s
    not_node e = let c = a.parent s e in let d = a.out in absurd (omega (arith, c, d))

    free : (q : ℕ) → p ≡ Some q → stands_in q k ≡ 0
    free q e = let i = a.parent q e in let c = a.puts.counts q in let d = b.counts q in let o = flat.once q in omega (arith, i, c, d, o)

pub hangs_leaf : (old new : Tree) (p : Option ℕ) (s : ℕ) → IsFlat new → PutsLast old new p s → Hangs old new p (leaf s)
hangs_leaf old new p s flat a = hangs_tree old new new p s end flat a (hangs_nothing new (Some s))

-- The forest as a nest.

tops-nest_of : (x : f.Forest) → tops (nest_of x) ≡ t.tops x
tops-nest_of f.end = refl
tops-nest_of (f.tree i k r) = ap (λ l. i.1 ∷ l) (tops-nest_of r)

stands_in-nest_of : (s : ℕ) (x : f.Forest) → stands_in s (nest_of x) ≡ stands s x
stands_in-nest_of s f.end = refl
stands_in-nest_of s (f.tree i k r) = let a = stands_in-nest_of s k in let b = stands_in-nest_of s r in omega (arith, a, b)

Hung-nest_of : (v : Tree) (x : f.Forest) → IsRead (λ s. children v (Some s)) x → Hung v (nest_of x)
Hung-nest_of v f.end h = tt
Hung-nest_of v (f.tree i k r) h = (h.0 ∙ sym (tops-nest_of k), Hung-nest_of v k h.1, Hung-nest_of v r h.2)

-- the forest is the nest that hangs at its top
nest_is : (v : Tree) (x : f.Forest) (n : Nest ℕ) → IsRead (λ s. children v (Some s)) x → Hung v n → t.tops x ≡ tops n → nest_of x ≡ n
nest_is v f.end end h w e = refl
nest_is v f.end (tree s k r) h w e = absurd (let no : [] ≡ s ∷ tops r = e in cc)
nest_is v (f.tree i k r) end h w e = absurd (let no : i.1 ∷ t.tops r ≡ [] = e in cc)
nest_is v (f.tree i k r) (tree s m o) h w e =
    let at : i.1 ≡ s = head_is i.1 s (t.tops r) (tops o) e in
    let below = nest_is v k m h.1 w.1 (sym h.0 ∙ (ap (λ q. children v (Some q)) at ∙ w.0)) in
    let after = nest_is v r o h.2 w.2 (ap tail_of e) in λ z. tree (at z) (below z) (after z)

-- what hangs at the top of the forest stands after what stood there
hangs_whole : (old new : Tree) (x : Nest ℕ) → IsFlat old → IsFlat new → Hangs old new None x → nest_of new.forest ≡ joined (nest_of old.forest) x
hangs_whole old new x was flat a =
    let before = Hung-same old new (nest_of old.forest) (λ s lt. a.others (Some s) (λ e. let no : Some s ≡ None = e in cc) (λ q e. at_some x s q e (free s lt))) (Hung-nest_of old old.forest (tree_is_read old was)) in
    nest_is new new.forest (joined (nest_of old.forest) x) (tree_is_read new flat) (Hung-joined new (nest_of old.forest) x before a.below)
    (a.top ∙ sym (tops-joined (nest_of old.forest) x ∙ ap (λ l. l ++ tops x) (tops-nest_of old.forest)))
  where
    free : (s : ℕ) → 0 < stands_in s (nest_of old.forest) → stands_in s x ≡ 0
    free s lt = let c = a.counts s in let o = flat.once s in let q = stands_in-nest_of s old.forest in omega (arith, c, o, q, lt)

pub hangs_at_top : (old new : Tree) (p : Option Id) (x : Nest ℕ) → IsFlat old → IsFlat new → Hangs old new (t.stamp_of p) x → p ≡ None → nest_of new.forest ≡ joined (nest_of old.forest) x
hangs_at_top old new p x was flat a e = hangs_whole old new x was flat (subst (λ o. Hangs old new (t.stamp_of o) x) e a)
