-- What moves nodes in the tree changes nothing of what is kept.
use Rattle.std.proofs.Common.{◌≡◌, Option, refl, subst}
use Rattle.gl_arena.specs.Id.{Id}
use Rattle.gl_meaning.specs.View.{manifest_view}
use Rattle.gl_opc.specs.declared.app.App.{App}
use Rattle.gl_plain.specs.State.{State}
use Rattle.gl_machine.specs.Code.{Codes as PlainCodes}
use Rattle.gl_vm.specs.View.{Tables, state_of}
use Rattle.gl_vm.specs.Steps.{Follows, Does}
use Rattle.gl_vm.specs.declared.vm.Vm.{Vm}
use Rattle.gl_code.specs.Cells.{CellList}
use Rattle.gl_code.specs.Comments.{Commented}
use Rattle.gl_code.specs.Tables.{tables_of}
use Rattle.gl_code.proofs.Calming.{hung_follows}
use Rattle.gl_code.specs.Renewing.{Renewal, Renews}

-- the tree alone is another, with the same nodes
pub tree_does : (old new : Vm) → new ≡ record old { tree = new.tree } → new.tree.nodes ≡ old.tree.nodes → Does (λ n st. st) old new
tree_does old new e same = λ n u agrees. hung_follows n (state_of n old u) old new (e, same) (record { state = refl; agrees = agrees })

follows_on : (n : Tables) (st : State) (mid new : Vm) → Follows n st mid → Does (λ n st. st) mid new → Follows n st new
follows_on n st mid new f d = subst (λ (s : State). Follows n s new) f.state (d n st.touched f.agrees)

pub commented_on : (n : Tables) (r : PlainCodes × State) (mid new : Vm) (k : Option Id) → Commented n r mid k → Does (λ n st. st) mid new → Commented n r new k
commented_on n r mid new k c d = record { state = c.state; follows = follows_on n c.state mid new c.follows d; is = c.is }

pub renews_on : {A : Type 0} (a : App) (cells : CellList) (f : Renewal A) (x : Tables → A) (old mid new : Vm) → Renews a cells f old x mid → Does (λ n st. st) mid new → Renews a cells f old x new
renews_on a cells f x old mid new p d ts rise u agrees =
    let n = tables_of (manifest_view a.manifest) in
    let r = p ts rise u agrees in
    record { steps = r.steps; state = r.state; follows = follows_on n r.state mid new r.follows d; is = r.is }
