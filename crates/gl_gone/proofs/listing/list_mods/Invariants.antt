use Rattle.std.proofs.Common.{◌≡◌, ◌++◌, drop}
use Rattle.gl_vm.specs.View.{Tables}
use Rattle.gl_gone.specs.View.{all_seen, AllKept}
use Rattle.gl_gone.proofs.CodeGoes.{mods_go}
use Rattle.gl_gone.proofs.listing.list_mods.Given as goal

abbrev pub invariant-loop-spot : goal.invariant-loop-spot
invariant-loop-spot l = record {
  seen : (n : Tables) → all_seen n l.list.items ++ mods_go (drop l.spot-index l.mods) ≡ all_seen n l.fn.list.items ++ mods_go l.mods;
  kept : AllKept l.vm l.fn.list.items → AllKept l.vm l.list.items;
}
