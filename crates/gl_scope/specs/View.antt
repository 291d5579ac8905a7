-- What the code's scopes and blocks stand for.
use Rattle.gl_arena.specs.Arena.{Arena}
use Rattle.gl_arena.specs.Mapped.{mapped}
use Rattle.gl_scope.specs.Scope as s
use Rattle.gl_scope.specs.declared.scope.Scope.{Scope}
use Rattle.gl_scope.specs.declared.scope.Block.{Block}

abbrev pub seen_scope : Scope → s.Scope
seen_scope w = record { owner = w.owner; args = w.args; locals = w.locals; passed = w.passed; spread = w.spread }

abbrev pub seen_block : Block → s.Block
seen_block b = record { class = b.class; start = b.start; scope = seen_scope b.scope }

abbrev pub seen_blocks : Arena Block → s.Blocks
seen_blocks a = mapped seen_block a
