-- Which blocks and instances the recorded scopes name.
use Rattle.std.specs.Prelude.{◌<◌, ℕ, ◌+◌, ◌⊎◌}
use Rattle.gl_ast.specs.Template.{Stmt}
use Rattle.gl_meaning.specs.Path.{Path}
use Rattle.gl_meaning.specs.Scope.{Scope}
use Rattle.gl_meaning.specs.Eval.{Store}
use Rattle.gl_plain.specs.Ids.{Id, block_id, instance_id, hit}
use Rattle.gl_plain.specs.State.{MScope, mscope, MPassed, mnothing, mpassed, Thing, State}
use Rattle.gl_plain.specs.Live.{times}
use Rattle.gl_plain.specs.Stands.{Stands}
use Rattle.gl_plain.specs.Machine.{StandsFor}
use Rattle.gl_machine.specs.Sight.{Sight, sight, Passing, not_passed, passing}
use Rattle.gl_machine.specs.Code.{Code, still_code, put_code, element_code, branch_code, listed_code, unlisted_code, let_code, component_code, yield_code, ItemCodes, no_item_codes, item_code, Codes, no_codes, code_and, live_of}
use Rattle.gl_machine.specs.Env.{Env}
use Rattle.gl_machine.specs.Placed.{Placed}
use Rattle.gl_machine.specs.Root.{PlacedRoot}
use Rattle.std.specs.Prelude.{Option}

-- how often a sight names an id: its instance, what was passed, and so along the chain of those that wrote
abbrev mutual
  pub named_in : Id → Sight → ℕ
  named_in q (sight c i a l w) = hit q (instance_id i.id) + named_passing q w

  pub named_passing : Id → Passing → ℕ
  named_passing q not_passed = 0
  named_passing q (passing k parts slots s) = hit q (block_id k) + named_in q s

-- the same of a scope of the machine over trees
abbrev mutual
  pub named_scope : Id → MScope → ℕ
  named_scope q (mscope i a l v) = hit q (instance_id i.id) + named_passed q v

  pub named_passed : Id → MPassed → ℕ
  named_passed q mnothing = 0
  named_passed q (mpassed k ps bs s) = hit q (block_id k) + named_scope q s

-- each recorded sight has the property
module _ (P : Sight → Type 0) where
  abbrev mutual
    pub EachSight : Code → Type 0
    EachSight (still_code n) = Unit {0}
    EachSight (put_code n x) = Unit {0}
    EachSight (element_code n made xs zs cs) = EachSightIn cs
    EachSight (branch_code z x u k cs) = P z.sight × EachSightIn cs
    EachSight (listed_code z x is) = P z.sight × EachSightOf is
    EachSight (unlisted_code z x k cs) = P z.sight × EachSightIn cs
    EachSight (let_code made rs cs) = EachSightIn cs
    EachSight (component_code i made gm args k cs) = EachSightIn cs
    EachSight (yield_code n made rs cs) = EachSightIn cs

    pub EachSightOf : ItemCodes → Type 0
    EachSightOf no_item_codes = Unit {0}
    EachSightOf (item_code z k cs is) = EachSightIn cs × EachSightOf is

    pub EachSightIn : Codes → Type 0
    EachSightIn no_codes = Unit {0}
    EachSightIn (code_and k ks) = EachSight k × EachSightIn ks

-- What is recorded of a part names blocks and instances of the scope around it, and the part's own.
abbrev pub SightsNameOwn : Type 0
SightsNameOwn =
    (env : Env) (σ τ : Store) (look : Id → Option Thing) (m b c : ℕ) (s : Scope) (ms : MScope) (w : Passing) (p : Path) (x : Stmt) (k : Code)
    → Placed env c ms w p x k → Stands env.app σ τ look m b s ms p x (live_of k)
    → EachSight (λ z. (q : Id) → 0 < named_in q z → (0 < named_scope q ms) ⊎ (0 < times q (live_of k))) k

-- So the scopes that a page has recorded name what is the page's: nothing of what was freed.
abbrev pub PageNamesOwn : Type 0
PageNamesOwn =
    (env : Env) (σ τ : Store) (st : State) (k : Code) → PlacedRoot env k → StandsFor env.app σ τ st (live_of k)
    → EachSight (λ z. (q : Id) → 0 < named_in q z → 0 < times q (live_of k)) k
