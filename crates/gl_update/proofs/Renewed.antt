-- What an update does to the nodes of a part, joined from what it does to those of its parts.
use Rattle.std.proofs.Common.{◌≡◌, ℕ, List, map, Option, Some, refl, sym, ap, subst, ◌∙◌, arith}
use Rattle.gl_nodes.specs.Tree.{Tree}
use Rattle.gl_nodes.specs.Flat.{stamp_of}
use Rattle.gl_machine.specs.Code.{Code as PlainCode, live_of}
use Rattle.gl_machine.specs.Shape.{Nest, end, tree, joined, nest, nest_comment}
use Rattle.gl_refs.specs.Refs.{Refs}
use Rattle.gl_vm.specs.View.{Tables}
use Rattle.gl_vm.specs.Steps.{Rooted}
use Rattle.gl_vm.specs.declared.vm.Vm.{Vm}
use Rattle.gl_code.specs.CodeView.{seen_code}
use Rattle.gl_code.specs.declared.code.Code.{Code}
use Rattle.gl_code.specs.declared.code.ItemCode.{ItemCode}
use Rattle.gl_code.proofs.Rooting.{roots_refl, roots_same}
use Rattle.gl_seats.specs.Parts.{code_nest, codes_nest, body_nest, item_nest, items_nest}
use Rattle.gl_seats.specs.Seats.{Replaces, Unseats, UnseatsEach, SeatsBefore, IsBehind, NodesRenewed}
use Rattle.gl_seats.proofs.Replacing.{replaces_same, replaces_joined, replaces_within, replaces_body, replaces_as, replaces_anew, unseats_all}
use Rattle.gl_seats.proofs.Rows.{row_all}
use Rattle.gl_seats.proofs.CodeRows.{items_row, item_body}

-- where the references alone are others
pub refs_rooted : (old new : Vm) (r : Refs) → new ≡ record old { refs = r } → Rooted old.tree new.tree
refs_rooted old new r e = roots_same old.tree new.tree (ap (λ (v : Vm). v.tree) e)

-- A part

-- what stays, while no item is counted
pub nodes_same : (old new : Tree) (b a : ℕ) (p : Option ℕ) (x : Tables → Nest ℕ) → Rooted old new → a ≡ b → NodesRenewed old new b a p x x
nodes_same old new b a p x r e = record {
  replaces = λ n. subst (λ g. Replaces old.forest g p (x n) (x n)) (sym r.forest) (replaces_same old.forest p (x n));
  moves = let s = r.moves in omega (arith, s, e);
}

-- what is replaced while nothing moves
pub nodes_replaced : (old new : Tree) (b a : ℕ) (p : Option ℕ) (x y : Tables → Nest ℕ) → ((n : Tables) → Replaces old.forest new.forest p (x n) (y n)) → new.moves ≡ old.moves → a ≡ b → NodesRenewed old new b a p x y
nodes_replaced old new b a p x y h s e = record { replaces = h; moves = omega (arith, s, e) }

-- The roots stay before it and behind it, and no item is counted there.
pub nodes_within : (old mid new late : Tree) (k b a l : ℕ) (p : Option ℕ) (x y : Tables → Nest ℕ) → Rooted old mid → b ≡ k → NodesRenewed mid new b a p x y → Rooted new late → l ≡ a → NodesRenewed old late k l p x y
nodes_within old mid new late k b a l p x y r e h s d = record {
  replaces = λ n. subst (λ g. Replaces old.forest g p (x n) (y n)) (sym s.forest) (subst (λ f. Replaces f new.forest p (x n) (y n)) r.forest (h.replaces n));
  moves = let m = h.moves in let before = r.moves in let behind = s.moves in omega (arith, m, before, behind, e, d);
}

pub nodes_after : (old mid new : Tree) (k b a : ℕ) (p : Option ℕ) (x y : Tables → Nest ℕ) → Rooted old mid → b ≡ k → NodesRenewed mid new b a p x y → NodesRenewed old new k a p x y
nodes_after old mid new k b a p x y r e h = nodes_within old mid new new k b a a p x y r e h (roots_refl new) refl

pub nodes_counted : (old new : Tree) (k b a l : ℕ) (p : Option ℕ) (x y : Tables → Nest ℕ) → b ≡ k → l ≡ a → NodesRenewed old new b a p x y → NodesRenewed old new k l p x y
nodes_counted old new k b a l p x y e d h = nodes_within old old new new k b a l p x y (roots_refl old) e h (roots_refl new) d

-- the same nests by other words
pub nodes_as : (old new : Tree) (b a : ℕ) (p : Option ℕ) (x x' y y' : Tables → Nest ℕ) → ((n : Tables) → x n ≡ x' n) → ((n : Tables) → y n ≡ y' n) → NodesRenewed old new b a p x y → NodesRenewed old new b a p x' y'
nodes_as old new b a p x x' y y' e d h = record {
  replaces = λ n. replaces_as old.forest new.forest p (x n) (x' n) (y n) (y' n) (e n) (d n) (h.replaces n);
  moves = h.moves;
}

-- one part after another
pub nodes_joined : (old mid new : Tree) (b m a : ℕ) (p : Option ℕ) (x y u v : Tables → Nest ℕ) → NodesRenewed old mid b m p x y → NodesRenewed mid new m a p u v → NodesRenewed old new b a p (λ n. joined (x n) (u n)) (λ n. joined (y n) (v n))
nodes_joined old mid new b m a p x y u v h k = record {
  replaces = λ n. replaces_joined old.forest mid.forest new.forest p (x n) (y n) (u n) (v n) (h.replaces n) (k.replaces n);
  moves = let s = h.moves in let t = k.moves in omega (arith, s, t);
}

-- a part with what stands behind it
pub nodes_beside : (old new : Tree) (b a : ℕ) (p : Option ℕ) (x y r : Tables → Nest ℕ) → NodesRenewed old new b a p x y → NodesRenewed old new b a p (λ n. joined (x n) (r n)) (λ n. joined (y n) (r n))
nodes_beside old new b a p x y r h = record {
  replaces = λ n. replaces_within old.forest new.forest p end (x n) (y n) (r n) (h.replaces n);
  moves = h.moves;
}

-- an element with what is in it
pub nodes_element : (old new : Tree) (b a : ℕ) (p : Option ℕ) (s : ℕ) (x y : Tables → Nest ℕ) → NodesRenewed old new b a (Some s) x y → NodesRenewed old new b a p (λ n. tree s (x n) end) (λ n. tree s (y n) end)
nodes_element old new b a p s x y h = record {
  replaces = λ n. replaces_body old.forest new.forest p s (x n) (y n) (h.replaces n);
  moves = h.moves;
}

-- a statement by what it is
pub nodes_arm : (old new : Tree) (b a : ℕ) (p : Option ℕ) (x y : Code) (k l : Tables → PlainCode) → ((n : Tables) → seen_code n x ≡ k n) → ((n : Tables) → seen_code n y ≡ l n)
    → NodesRenewed old new b a p (λ n. nest (live_of (k n))) (λ n. nest (live_of (l n))) → NodesRenewed old new b a p (λ n. code_nest n x) (λ n. code_nest n y)
nodes_arm old new b a p x y k l e d h =
    nodes_as old new b a p (λ n. nest (live_of (k n))) (λ n. code_nest n x) (λ n. nest (live_of (l n))) (λ n. code_nest n y) (λ n. ap (λ c. nest (live_of c)) (sym (e n))) (λ n. ap (λ c. nest (live_of c)) (sym (d n))) h

-- a new statement in the place of something, by what it is
pub nodes_made : (old new : Tree) (b a : ℕ) (p : Option ℕ) (x : Tables → Nest ℕ) (y : Code) (l : Tables → PlainCode) → ((n : Tables) → seen_code n y ≡ l n) → NodesRenewed old new b a p x (λ n. nest (live_of (l n))) → NodesRenewed old new b a p x (λ n. code_nest n y)
nodes_made old new b a p x y l d h = nodes_as old new b a p x x (λ n. nest (live_of (l n))) (λ n. code_nest n y) (λ n. refl) (λ n. ap (λ c. nest (live_of c)) (sym (d n))) h

-- an item with its comment, of which the body is renewed
pub nodes_item : (old new : Tree) (b a : ℕ) (p : Option ℕ) (x y : ItemCode) → y.comment ≡ x.comment → NodesRenewed old new b a p (λ n. codes_nest n x.body) (λ n. codes_nest n y.body) → NodesRenewed old new b a p (λ n. item_nest n x) (λ n. item_nest n y)
nodes_item old new b a p x y e h =
    nodes_as old new b a p (λ n. body_nest n x.body x.comment) (λ n. item_nest n x) (λ n. body_nest n y.body x.comment) (λ n. item_nest n y) (λ n. sym (item_body n x)) (λ n. ap (body_nest n y.body) (sym e) ∙ sym (item_body n y))
    (nodes_beside old new b a p (λ n. codes_nest n x.body) (λ n. codes_nest n y.body) (λ n. nest_comment (stamp_of x.comment)) h)

-- What stood there is gone, and others stand in its place, which were made meanwhile.

pub stands_anew : (old mid made new : Tree) (p parent next : Option ℕ) (x y : Nest ℕ) → parent ≡ p → IsBehind old.forest p x next → Unseats old.forest mid.forest x → Rooted mid made → SeatsBefore made.forest new.forest parent next y
    → Replaces old.forest new.forest p x y
stands_anew old mid made new p parent next x y e behind gone r seats =
    replaces_anew old.forest mid.forest new.forest p next x y behind (gone p)
    (subst (λ q. SeatsBefore mid.forest new.forest q next y) e (subst (λ f. SeatsBefore f new.forest parent next y) r.forest seats))

-- new nodes that are seated after a step that leaves the roots
pub seats_after : (old mid new : Tree) (p next : Option ℕ) (y : Nest ℕ) → Rooted old mid → SeatsBefore mid.forest new.forest p next y → SeatsBefore old.forest new.forest p next y
seats_after old mid new p next y r seats = subst (λ f. SeatsBefore f new.forest p next y) r.forest seats

pub seats_as : (old new : Tree) (p next : Option ℕ) (x y : Nest ℕ) → x ≡ y → SeatsBefore old.forest new.forest p next x → SeatsBefore old.forest new.forest p next y
seats_as old new p next x y e seats = subst (SeatsBefore old.forest new.forest p next) e seats

-- Items

pub items_unseated : (n : Tables) (old new : Tree) (xs : List ItemCode) → UnseatsEach old.forest new.forest (map (item_nest n) xs) → Unseats old.forest new.forest (items_nest n xs)
items_unseated n old new xs h = subst (Unseats old.forest new.forest) (row_all (item_nest n) xs ∙ sym (items_row n xs)) (unseats_all old.forest new.forest (map (item_nest n) xs) h)
