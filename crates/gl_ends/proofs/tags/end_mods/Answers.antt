use Rattle.std.proofs.Common.{map}
use Rattle.std.proofs.lemmas.Result.{on_ok_weaker}
use Rattle.gl_plain.specs.Ids.{modifier_id, occurs}
use Rattle.gl_plain.specs.Live.{times_mods}
use Rattle.gl_code.specs.CodeView.{seen_mod_spot}
use Rattle.gl_ends.specs.Ending.{times_spots}
use Rattle.gl_ends.proofs.Joins.{ends_then}
use Rattle.gl_ends.proofs.CodeCounts.{mods_count}
use Rattle.gl_ends.proofs.tags.end_mods.Goals as goal

pub returns-clause-ends : goal.returns-clause-ends
returns-clause-ends c n =
    let xs = c.args.mods.now in
    on_ok_weaker c.end_spots.result
    (ends_then n c.args.vm.now c.end_installed.new.vm c.end_spots.new.vm (λ q. occurs q (map (λ x. modifier_id x.id.1) xs)) (λ q. times_spots q xs) (λ q. times_mods q (map seen_mod_spot xs)) (λ q. mods_count q xs)
    c.end_installed.ensures.led (c.in_ok-end_installed.ensures.ends n))
    (c.end_spots.ensures.ends n)

pub returns-clause-led : goal.returns-clause-led
returns-clause-led c = λ h. c.end_spots.ensures.led (c.end_installed.ensures.led h)
