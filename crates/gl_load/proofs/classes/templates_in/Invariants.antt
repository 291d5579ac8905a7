use Rattle.std.proofs.Common.{◌≡◌, ◌≤◌, ◌+◌, List, Some, drop, length}
use Rattle.gl_base.specs.Texts.{Text}
use Rattle.gl_outside.specs.Shelf.{Entry}
use Rattle.gl_meaning.specs.View.{seen_classes}
use Rattle.gl_load.specs.Load.{templates_in, templates_fetched}
use Rattle.gl_load.specs.Loads.{IsAmong}
use Rattle.gl_load.specs.Trees.{after_trees}
use Rattle.gl_load.proofs.classes.templates_in.Given as goal

abbrev pub invariant-loop-class : goal.invariant-loop-class
invariant-loop-class g l =
    let left = seen_classes (drop l.class-index l.class-items) in
    record {
      keeps : g.S.Shelf.holds l.shelf ≡ g.S.Shelf.holds l.fn.shelf;
      told : (files : List Entry) → g.S.Shelf.holds l.fn.shelf ≡ Some files → templates_in files l.classes ≡ after_trees l.templates (templates_in files left);
      among : (files : List Entry) → g.S.Shelf.holds l.fn.shelf ≡ Some files → (n : Text) → IsAmong n (templates_fetched files left) → IsAmong n (templates_fetched files l.classes);
      many : length l.templates + length left ≡ length l.classes;
      misses_stay : g.S.Shelf.misses l.fn.shelf ≤ g.S.Shelf.misses l.shelf;
      faults_stay : g.S.Shelf.faults l.fn.shelf ≤ g.S.Shelf.faults l.shelf;
    }
