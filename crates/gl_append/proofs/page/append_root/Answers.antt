use Rattle.std.proofs.Common.{[], None, reverse, ◌∙◌, ap}
use Rattle.gl_meaning.specs.View.{path_view, manifest_view}
use Rattle.gl_meaning.specs.declared.path.Path.{Path}
use Rattle.gl_machine.specs.Mach.{all_of}
use Rattle.gl_machine.specs.Sight.{sight, not_passed}
use Rattle.gl_vm.specs.View.{state_of}
use Rattle.gl_code.specs.View.{refs_made, seen_owner, seen_sight}
use Rattle.gl_code.specs.CodeView.{component_seen}
use Rattle.gl_append.specs.MachineView.{seen_here, mach_by, mach_of}
use Rattle.gl_code.specs.Cells.{store_of}
use Rattle.gl_code.specs.Tables.{tables_of, env_of}
use Rattle.gl_append.proofs.PageRuns.{run_ends, root_fails}
use Rattle.gl_append.proofs.page.append_root.Goals as goal

pub returns-in-Ok-clause-ok : goal.returns-in-Ok-clause-ok
returns-in-Ok-clause-ok c ts rise u agrees =
    let env = env_of c.args.app.now ts in
    let store = store_of env.app c.args.cells.now in
    let n = tables_of (manifest_view c.args.app.now.manifest) in
    let path : Path = record { steps = c.new.result } in
    let own = c.args.owner.value in
    let x = c.in-Ok.ensures.ok ts rise u agrees in
    record {
      steps = x.steps;
      codes = all_of (seen_here n c.run.new.self.here).codes;
      state = x.state;
      follows = x.follows;
      is = run_ends env store x.steps (seen_sight n c.in_ok-sight.sight) (sight own.class (seen_owner n own) [] [] not_passed) (path_view path) [] c.args.left (state_of n c.args.vm.now u) (mach_of n u c.args.vm.now c.new-machine.result)
          (mach_by n x.state c.run.new.self) (c.new-machine.ensures env store n (state_of n c.args.vm.now u)) (c.in_ok-sight.ensures n) (ap reverse c.new.ensures) x.leads;
      recorded = c.root.ensures n ∙ ap (λ cs. component_seen (seen_owner n own) [] (refs_made own.cells) [] None cs) (c.finish.ensures n);
    }

pub returns-in-Err-clause-fails : goal.returns-in-Err-clause-fails
returns-in-Err-clause-fails c =
    let path : Path = record { steps = c.new.result } in
    root_fails c.args.app.now c.args.cells.now c.args.vm.now c.new-machine.result c.args.owner.value c.in_ok-sight.sight path c.args.left c.new-machine.ensures c.in_ok-sight.ensures (ap reverse c.new.ensures) c.in-Err.fault c.in-Err.ensures.deep
