use Rattle.std.proofs.Common.{◌≡◌, ◌-◌, length, ap, ◌∙◌, arith}
use Rattle.std.proofs.lemmas.Grind.{common_steps}
use Rattle.gl_gen.proofs.Arrays.{length-rows}
use Rattle.gl_gen.proofs.Written.{written_first, written_more, written_all}
use Rattle.gl_gen.proofs.script.script_of.Goals as goal

pub push_event-requires : goal.push_event-requires
push_event-requires c =
    let all : length c.args.texts.now ≡ c.args.n = ap length c.requires.those ∙ length-rows c.args.n in
    omega arith

pub push_event-requires-in-loop-event : goal.push_event-requires-in-loop-event
push_event-requires-in-loop-event c =
    let all : length c.args.texts.now ≡ c.args.n = ap length c.requires.those ∙ length-rows c.args.n in
    omega arith

pub loop-event-init : goal.loop-event-init
loop-event-init c = written_first c.args.n c.args.texts.now _ (omega arith) c.requires.those (grind (arith, common_steps))

pub loop-event-preserved : goal.loop-event-preserved
loop-event-preserved c =
    written_more c.args.n c.loop-event.event (c.loop-event.event - 1) c.loop-event.number c.number_after-number.result c.args.texts.now c.loop-event.text _ (omega arith) c.loop-event.invariant c.number_after-number.ensures.value c.number_after-number.ensures.small c.requires.those (grind (arith, common_steps))

pub returns : goal.returns
returns c =
    let last : c.loop-event.event ≡ 16 = omega arith in
    written_all c.args.n c.loop-event.event c.loop-event.number c.loop-event.text _ last c.loop-event.invariant (grind (arith, common_steps))
