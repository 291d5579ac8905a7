use Rattle.std.proofs.Common.{◌≡◌, ◌++◌, drop}
use Rattle.gl_vm.specs.View.{Tables}
use Rattle.gl_gone.specs.View.{all_seen, AllKept}
use Rattle.gl_gone.proofs.CodeGoes.{codes_go, items_go}
use Rattle.gl_gone.proofs.listing.+listing.Given as goal

-- what is there, before what is left, is all
abbrev pub invariant-list_codes-loop-code : goal.invariant-list_codes-loop-code
invariant-list_codes-loop-code l = record {
  seen : (n : Tables) → all_seen n l.list.items ++ codes_go n (drop l.code-index l.code-items) ≡ all_seen n l.fn.list.items ++ codes_go n l.code-items;
  kept : AllKept l.vm l.fn.list.items → AllKept l.vm l.list.items;
}

abbrev pub invariant-list_items-loop-item : goal.invariant-list_items-loop-item
invariant-list_items-loop-item l = record {
  seen : (n : Tables) → all_seen n l.list.items ++ items_go n (drop l.item-index l.item-items) ≡ all_seen n l.fn.list.items ++ items_go n l.item-items;
  kept : AllKept l.vm l.fn.list.items → AllKept l.vm l.list.items;
}
