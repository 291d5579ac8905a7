use Rattle.std.proofs.Common.{◌≡◌, [], Some, refl, sym, ◌∙◌, ap, subst}
use Rattle.std.proofs.lemmas.Result.{err_from_is_err_and}
use Rattle.std.proofs.lemmas.Slice.Eq.{bytes_eq-Decides}
use Rattle.gl_meaning.specs.View.{manifest_view}
use Rattle.gl_meaning.specs.declared.manifest.Manifest.{Manifest}
use Rattle.gl_opc.specs.Numbers.{class_number}
use Rattle.gl_plain.specs.Ids.{an_instance}
use Rattle.gl_plain.specs.Naming.{by_number}
use Rattle.gl_plain.specs.Grow.{grow_cells_as}
use Rattle.gl_plain.specs.State.{instance_row, State, make}
use Rattle.gl_machine.specs.Env.{class_no}
use Rattle.gl_machine.specs.Outcome.{ok}
use Rattle.gl_machine.specs.Root.{append_page_as}
use Rattle.gl_machine.specs.Step.{run_for_as}
use Rattle.gl_vm.specs.View.{state_of}
use Rattle.gl_vm.specs.Steps.{empty}
use Rattle.gl_code.specs.View.{refs_made, seen_owner}
use Rattle.gl_code.specs.CodeView.{seen_code}
use Rattle.gl_code.specs.Cells.{store_of}
use Rattle.gl_code.specs.Instances.{Suits}
use Rattle.gl_code.specs.Tables.{env_of, tables_of}
use Rattle.gl_code.proofs.Calming.{hung_follows, tree_calm}
use Rattle.gl_append.proofs.PageRuns.{page_of, page_stopped}
use Rattle.gl_append.proofs.page.append.Goals as goal

pub returns-in_ok-hang_page-in-Ok-clause-ok : goal.returns-in_ok-hang_page-in-Ok-clause-ok
returns-in_ok-hang_page-in-Ok-clause-ok c ts rise =
    let env = env_of c.args.app.now ts in
    let store = store_of env.app c.args.cells.now in
    let n = tables_of (manifest_view c.args.app.now.manifest) in
    let number = c.in_ok-number.number in
    let own = c.in_ok-owner.owner.value in
    let start = c.in_ok-vm.ensures.state n in
    let suits : Suits env = record { templates = ts; app = refl; rise = rise } in
    let manifest : c.manifest-manifest.result.now ≡ c.args.app.now.manifest = c.manifest-manifest.ensures in
    let named : c.args.app.now.manifest.root ≡ c.in_ok-class.class.now.name
    = ap (λ (m : Manifest). m.root) (sym manifest) ∙ (bytes_eq-Decides c.manifest-manifest.result.now.root c.in_ok-class.class.now.name).0 (sym c.same.ensures ∙ c.if-not-same.false) in
    let there = c.in_ok-owner.ensures.step env suits c.in_ok-class.ensures named empty.touched start.agrees in
    let now : State = make an_instance (instance_row there.inst) (grow_cells_as by_number env.app store [] (class_no env number).fields (state_of n c.in_ok-vm.vm empty.touched)).state in
    let x = c.in-Ok.ensures.ok ts rise now.touched there.follows.agrees in
    record {
      root = number;
      numbered = subst (λ (m : Manifest). class_number (manifest_view m) m.root ≡ Some number) manifest c.in_ok-number.ensures;
      steps = x.steps;
      state = x.state;
      follows = hung_follows n x.state c.append_root.new.vm c.hang_page.new.vm c.in_ok-hang_page-in-Ok.ensures.rest x.follows;
      is = subst (λ j. append_page_as by_number j env store (run_for_as by_number env store x.steps) number empty ≡ ok (seen_code n c.in-Ok.code, x.state)) (sym (ap (λ (m : Manifest). m.limit) (sym manifest) ∙ c.in_ok-left.ensures))
          (page_of env store x.steps number c.in_ok-left.left (state_of n c.in_ok-vm.vm empty.touched) (state_of n c.make_root.new.vm now.touched) there.inst (seen_owner n own) own.class (refs_made own.cells) x.codes x.state (seen_code n c.in-Ok.code)
          start.state there.is c.in_ok-owner.ensures.class there.seen there.follows.state there.made x.is x.recorded);
    }

pub returns-in_ok-hang_page-in-Ok-clause-calm : goal.returns-in_ok-hang_page-in-Ok-clause-calm
returns-in_ok-hang_page-in-Ok-clause-calm c = tree_calm c.append_root.new.vm c.hang_page.new.vm c.in_ok-hang_page-in-Ok.ensures.rest.0 c.append_root.ensures.calm

pub returns-in-Err-clause-fails : goal.returns-in-Err-clause-fails
returns-in-Err-clause-fails c =
    let number = c.in_ok-number.number in
    let manifest : c.manifest-manifest.result.now ≡ c.args.app.now.manifest = c.manifest-manifest.ensures in
    let named : c.args.app.now.manifest.root ≡ c.in_ok-class.class.now.name
    = ap (λ (m : Manifest). m.root) (sym manifest) ∙ (bytes_eq-Decides c.manifest-manifest.result.now.root c.in_ok-class.class.now.name).0 (sym c.same.ensures ∙ c.if-not-same.false) in
    page_stopped c.args.app.now c.args.cells.now c.in_ok-owner.owner.value c.in_ok-left.left c.in_ok-vm.vm c.make_root.new.vm number c.in-Err.fault c.in-Err.ensures.fails
    (ap (λ (m : Manifest). m.limit) (sym manifest) ∙ c.in_ok-left.ensures) (subst (λ (m : Manifest). class_number (manifest_view m) m.root ≡ Some number) manifest c.in_ok-number.ensures) c.in_ok-owner.ensures.class
    (λ ts rise. let env = env_of c.args.app.now ts in let suits : Suits env = record { templates = ts; app = refl; rise = rise } in let n = tables_of (manifest_view c.args.app.now.manifest) in
    (c.in_ok-vm.ensures.state n, c.in_ok-owner.ensures.step env suits c.in_ok-class.ensures named empty.touched (c.in_ok-vm.ensures.state n).agrees))

pub returns-in_err-hang_page-in-Ok-clause-fails : goal.returns-in_err-hang_page-in-Ok-clause-fails
returns-in_err-hang_page-in-Ok-clause-fails c =
    let p = err_from_is_err_and c.from_residual-in_err-hang_page-in-Ok.result c.from_residual-in_err-hang_page-in-Ok.ensures.1 in
    rw (p.1, p.2) tt

pub returns-in_err-left-clause-fails : goal.returns-in_err-left-clause-fails
returns-in_err-left-clause-fails c = let p = err_from_is_err_and c.from_residual-in_err-left.result c.from_residual-in_err-left.ensures.1 in rw (p.1, p.2) tt

pub returns-in_err-owner-clause-fails : goal.returns-in_err-owner-clause-fails
returns-in_err-owner-clause-fails c = let p = err_from_is_err_and c.from_residual-in_err-owner.result c.from_residual-in_err-owner.ensures.1 in rw (p.1, p.2) tt
