-- What the links tell of an id.
use Rattle.std.proofs.Common.{is_some, ◌≡◌, ℕ, ◌<◌, true, false, Option, Some, None, refl, sym, ap, ◌∙◌, inl, inr, arith}
use Rattle.std.specs.Prelude.{unwrap_or}
use Rattle.std.proofs.lemmas.Bool.{cases_lt}
use Rattle.gl_arena.specs.Id.{Id}
use Rattle.gl_arena.specs.Arena.{Arena}
use Rattle.gl_nodes.specs.Forest.{Forest, times, below_node}
use Rattle.gl_nodes.specs.Links.{parent_of}
use Rattle.gl_nodes.specs.Tree.{Tree, ParentIsElement}
use Rattle.gl_nodes.specs.View.{links_of, IsTree}
use Rattle.gl_nodes.specs.Flat.{IsFlat, PutsFlat, PutsLast, TakesNodes, stands, stamp_of}
use Rattle.gl_nodes.specs.declared.links.Entry.{Entry}
use Rattle.gl_nodes.proofs.Counts.{below_node-none}
use Rattle.gl_nodes.proofs.Above.{linked_above}
use Rattle.gl_nodes.proofs.Flats.{stamp-same, stands-times}

-- without a parent it stands nowhere
pub out_of : (a : Arena Entry) (root : Id) (n : ℕ) (f : Forest) (i : Id) → IsTree a root n f → is_some (parent_of (links_of a i)) ≡ false → times i f ≡ 0
out_of a root n f i is none = elim (cases_lt 0 (times i f)) [
  | inl lt ↦ let no : false ≡ true = sym none ∙ linked_above (links_of a) root None f None i is.links.linked.1 lt in cc
  | inr off ↦ omega (arith, off)
]

pub below_there : (x : Id) (f : Forest) → 0 < times x f → (kids : Forest) × (below_node x f ≡ Some kids)
below_there x f lt = by_case (below_node x f) refl
  where
    by_case : (o : Option Forest) → below_node x f ≡ o → (kids : Forest) × (below_node x f ≡ Some kids)
    by_case None e = let off = below_node-none x f e in absurd (omega (arith, off, lt))
    by_case (Some kids) e = (kids, e)

-- an element of the forest takes nodes, and so does the top
pub takes_there : (t : Tree) (x : Id) → ParentIsElement t (Some x) → 0 < times x t.forest → TakesNodes t (Some x)
takes_there t x is lt = let b = below_there x t.forest lt in record {
  element = is;
  place = record { kids = b.0; is_below = b.1; among = tt };
  stood = λ q e. let s = stands-times x t.forest in let at = ap (λ o. stands (unwrap_or o 0) t.forest) e in omega (arith, lt, s, at);
}

pub takes_top : (t : Tree) → TakesNodes t None
takes_top t = record {
  element = tt;
  place = record { kids = t.forest; is_below = refl; among = tt };
  stood = λ q e. let no : None ≡ Some q = e in cc;
}

-- a node was put in where each stamp stands once
pub puts_last : (old new : Tree) (p : Option Id) (i : Id) → IsFlat new → TakesNodes old p → PutsFlat old new (stamp_of p) None i.1 → PutsLast old new (stamp_of p) i.1
puts_last old new p i flat takes u = record {
  puts = u;
  out = let c = u.counts i.1 in let o = flat.once i.1 in let one = stamp-same i.1 in omega (arith, c, o, one);
  parent = takes.stood;
}
