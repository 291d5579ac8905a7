use Rattle.std.proofs.Common.{◌≡◌, map, drop}
use Rattle.gl_ends.proofs.tags.are_all.Given as goal

-- where what is left are the same, all are
abbrev pub invariant-loop-i : goal.invariant-loop-i
invariant-loop-i l = drop l.i l.ids ≡ map (λ x. x.id) (drop l.i l.mods) → l.ids ≡ map (λ x. x.id) l.mods
