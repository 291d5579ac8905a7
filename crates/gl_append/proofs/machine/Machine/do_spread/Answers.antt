use Rattle.std.proofs.Common.{◌≡◌, ℕ, List, ◌∙◌, ap, sym}
use Rattle.std.proofs.lemmas.Result.{on_ok_weaker}
use Rattle.gl_base.specs.Texts.{Text}
use Rattle.gl_machine.specs.Sight.{passing, passing_in}
use Rattle.gl_machine.specs.Step as s
use Rattle.gl_vm.specs.View.{Tables}
use Rattle.gl_code.specs.View.{seen_links, seen_level, seen_slots, shared}
use Rattle.gl_append.specs.MachineView.{mach_by}
use Rattle.gl_append.specs.Steps.{Moves}
use Rattle.gl_code.specs.declared.sight.Link.{Link}
use Rattle.gl_append.proofs.machine.Machine.do_spread.Goals as goal

pub returns-in_ok-chain-in-Some : goal.returns-in_ok-chain-in-Some
returns-in_ok-chain-in-Some c =
    let l : Link = c.in-Some.link.now.value in
    let e : (n : Tables) → seen_links n (shared c.args.self.now.sight.chain.items) ≡ passing l.block.1 c.deref.result.now.parts (seen_slots l.slots.items) (seen_level n c.in_ok-level-in-Some.level (seen_links n (shared c.in_ok-chain-in-Some.chain.items)))
    = λ n. ap (λ xs. seen_links n (shared xs)) (sym c.as_slice.ensures.value ∙ c.in-Some.ensures.cases.0)
    ∙ (ap (λ (x : Link). passing l.block.1 x.parts (seen_slots l.slots.items) (seen_level n l.level (seen_links n (shared c.in-Some.rest.now)))) (sym c.deref.ensures)
    ∙ ap (λ w. passing l.block.1 c.deref.result.now.parts (seen_slots l.slots.items) w)
    (ap (λ ls. seen_level n l.level (seen_links n ls)) (sym c.in_ok-chain-in-Some.ensures)
    ∙ (ap (λ (x : Link). seen_level n x.level (seen_links n (shared c.in_ok-chain-in-Some.chain.items))) (sym c.deref-in-Some.ensures)
    ∙ sym (c.in_ok-level-in-Some.ensures n (seen_links n (shared c.in_ok-chain-in-Some.chain.items)))))) in
    let f : ((k : ℕ) (slots : List (Text × ℕ)) → Moves (λ n m. s.spread_to m (passing k c.deref.result.now.parts slots (seen_level n c.in_ok-level-in-Some.level (seen_links n (shared c.in_ok-chain-in-Some.chain.items))))) c.args.self.now c.enter_parts.new.self)
    → Moves (λ n m. s.spread_to m (passing_in m.rest.sight)) c.args.self.now c.enter_parts.new.self
    = λ m n st. ap (λ w. s.spread_to (mach_by n st c.args.self.now) w) (e n) ∙ m l.block.1 (seen_slots l.slots.items) n st in
    on_ok_weaker c.enter_parts.result f c.enter_parts.ensures
