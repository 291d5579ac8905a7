-- A page in which nothing is stale, and which an update leaves as it is.
use Rattle.std.specs.Prelude.{◌≡◌, ℕ, ◌<◌, Bool, false}
use Rattle.std.specs.declared.rc.Rc.{Rc}
use Rattle.std.specs.declared.alloc.Global.{Global}
use Rattle.gl_meaning.specs.Scope.{Source}
use Rattle.gl_plain.specs.Counts.{positions_in}
use Rattle.gl_machine.specs.Code.{lives_of}
use Rattle.gl_guards.specs.Along.{enters_whole}
use Rattle.gl_vm.specs.View.{Tables, Agrees, state_of}
use Rattle.gl_vm.specs.declared.vm.Vm.{Vm}
use Rattle.gl_code.specs.CodeView.{seen_codes}
use Rattle.gl_code.specs.declared.sight.Owner.{Owner}
use Rattle.gl_code.specs.declared.code.Codes.{Codes}
use Rattle.gl_code.specs.declared.code.Code.TheVariants.{Root}
use Rattle.gl_code.specs.declared.page.Page.{Page}
use Rattle.gl_asks.specs.Asked.{CanAskAll}
use Rattle.gl_asks.specs.Spots.{body_ids}

-- Each position of a body can be asked, and none of them, as many as a machine holds, is stale.
pub record IsFresh (vm : Vm) (body : Codes) : Type 0 where
  pub asked : CanAskAll vm.refs (body_ids body)
  pub tables : Tables
  pub touched : Source → Bool
  pub agrees : Agrees touched vm
  pub fresh : enters_whole (state_of tables vm touched) (positions_in (lives_of (seen_codes tables body))) ≡ false

-- The body of a page is fresh.
pub record IsIdle (limit : ℕ) (page : Page) : Type 0 where
  pub nests : 0 < limit
  pub owner : Rc Owner Global
  pub body : Codes
  pub root : page.code ≡ Root owner body
  pub fresh : IsFresh page.vm body

-- Nothing but the count of questions is another.
abbrev pub AsksAlone : Vm → Vm → Type 0
AsksAlone old new = new ≡ record old { refs = record old.refs { asks = new.refs.asks } }

-- So it is of a page, of which the program is the same.
pub record StaysAs (old new : Page) : Type 0 where
  pub vm : AsksAlone old.vm new.vm
  pub code : new.code ≡ old.code
