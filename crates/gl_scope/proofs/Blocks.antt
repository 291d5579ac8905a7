-- The blocks as contracts see them, where one is put in.
use Rattle.std.proofs.Common.{◌≡◌, Result, Ok, Err, IfOk, OnErr, sym, subst}
use Rattle.gl_arena.specs.Id.{Id}
use Rattle.gl_arena.specs.Arena.{Arena, IsStamped, Gives}
use Rattle.gl_arena.proofs.Mapped.{gives-mapped}
use Rattle.gl_arena.proofs.Stamps.{gives-stamped}
use Rattle.gl_scope.specs.Scope.{Blocks}
use Rattle.gl_scope.specs.View.{seen_block, seen_blocks}
use Rattle.gl_scope.specs.declared.scope.Block.{Block}

pub put_stamped : {E : Type 0} (r : Result Id E) (old new : Arena Block) (b : Block) → IsStamped (seen_blocks old) → IfOk r (λ i. Gives old new i b) → OnErr r (new ≡ old) → IsStamped (seen_blocks new)
put_stamped (Ok i) old new b s g e = gives-stamped (seen_blocks old) (seen_blocks new) i (seen_block b) s (gives-mapped seen_block old new i b g)
put_stamped (Err x) old new b s g e = subst (λ a. IsStamped (seen_blocks a)) (sym e) s

pub put_gives : {E : Type 0} (r : Result Id E) (old new : Arena Block) (b : Block) (seen : Blocks) → seen_blocks old ≡ seen → IfOk r (λ i. Gives old new i b) → IfOk r (λ i. Gives seen (seen_blocks new) i (seen_block b))
put_gives (Ok i) old new b seen e g = subst (λ a. Gives a (seen_blocks new) i (seen_block b)) e (gives-mapped seen_block old new i b g)
put_gives (Err x) old new b seen e g = g
