use Rattle.std.proofs.Common.{◌∙◌, ap, sym}
use Rattle.std.specs.Str.{chars}
use Rattle.gl_base.specs.Names.{named}
use Rattle.gl_code.specs.View.{seen_level, seen_slots, shared}
use Rattle.gl_code.specs.declared.sight.Link.{Link}
use Rattle.gl_code.proofs.Blocks.{block_found}
use Rattle.gl_code.proofs.sight.Sight.block.Goals as goal

pub returns-in_ok-chain-in-Some-start_of : goal.returns-in_ok-chain-in-Some-start_of
returns-in_ok-chain-in-Some-start_of c n =
    let l : Link = c.in-Some.link.now.value in
    block_found n (chars c.args.name.now) (shared c.args.self.now.chain.items) l (shared c.in-Some.rest.now) (shared c.in_ok-chain-in-Some-start_of.chain.items) c.in_ok-level-in-Some-start_of.level c.in-Some-start_of.start
    (ap shared (sym c.as_slice.ensures.value ∙ c.in-Some.ensures.cases.0))
    (sym c.in-Some-start_of.is ∙ (c.start_of.ensures ∙ (ap (λ xs. named (chars c.args.name.now) (seen_slots xs)) c.as_slice-in-Some.ensures.value ∙ ap (λ (x : Link). named (chars c.args.name.now) (seen_slots x.slots.items)) c.deref.ensures)))
    (λ w. c.in_ok-level-in-Some-start_of.ensures n w ∙ ap (λ (x : Link). seen_level n x.level w) c.deref-in-Some-start_of.ensures) c.in_ok-chain-in-Some-start_of.ensures
