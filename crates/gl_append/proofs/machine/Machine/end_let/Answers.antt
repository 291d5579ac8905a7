use Rattle.std.proofs.Common.{◌≡◌, ◌∙◌, ap, ap₂, drop}
use Rattle.std.proofs.lemmas.Result.{on_ok_weaker}
use Rattle.gl_plain.specs.State.{State}
use Rattle.gl_machine.specs.RenewCode.{refs_in}
use Rattle.gl_machine.specs.Mach.{going}
use Rattle.gl_machine.specs.Step as s
use Rattle.gl_vm.specs.View.{Tables}
use Rattle.gl_code.specs.View.{seen_locals}
use Rattle.gl_code.specs.CodeView.{seen_code}
use Rattle.gl_append.specs.MachineView.{seen_here, seen_kind, mach_by}
use Rattle.gl_append.specs.Steps.{Moves}
use Rattle.gl_append.proofs.LetEnds.{let_ended}
use Rattle.gl_append.proofs.machine.Machine.end_let.Goals as goal

pub returns-in_ok-params-in-Let : goal.returns-in_ok-params-in-Let
returns-in_ok-params-in-Let c =
    let f : Moves (λ n m. s.show (seen_code n c.named-code.result, m.state) m) c.end-body.new.self c.show.new.self
    → (n : Tables) (st : State) → s.do_end_let (mach_by n st c.args.self.now) (mach_by n st c.args.self.now).rest.frames (seen_here n c.args.frame.here) (seen_kind n c.args.frame.kind) ≡ going (mach_by n st c.show.new.self)
    = λ m n st. ap (λ k. s.do_end_let (mach_by n st c.args.self.now) (mach_by n st c.args.self.now).rest.frames (seen_here n c.args.frame.here) (seen_kind n k)) c.in-Let.is
    ∙ let_ended c.args.self.now c.end-body.new.self c.show.new.self c.in-Let.sight c.in-Let.pending c.in-Let.made c.in_ok-params-in-Let.params c.args.frame.here c.end-body.result c.named-code.result
    (c.is_calling.ensures c.if-is_calling.false) (c.in_ok-params-in-Let.ensures ∙ ap₂ (λ k ls. refs_in (drop k (seen_locals ls))) c.len.ensures c.as_slice-locals.ensures) c.named-code.ensures c.end-body.ensures m n st in
    on_ok_weaker c.show.result f c.show.ensures
