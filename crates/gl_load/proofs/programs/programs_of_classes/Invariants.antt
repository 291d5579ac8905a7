use Rattle.std.proofs.Common.{◌≡◌, drop}
use Rattle.std.specs.Str.{chars}
use Rattle.gl_meaning.specs.ManifestRules.{Each}
use Rattle.gl_meaning.specs.View.{manifest_view, seen_classes}
use Rattle.gl_load.specs.Names.{classes_known}
use Rattle.gl_load.specs.Spelled.{IsSpelledClass}
use Rattle.gl_load.proofs.Adding.{Leaves}
use Rattle.gl_load.proofs.programs.programs_of_classes.Given as goal

abbrev pub invariant-loop-place : goal.invariant-loop-place
invariant-loop-place l =
    let left = seen_classes (drop l.place l.class-items) in
    let trees = drop l.place l.templates in
    let m = manifest_view l.manifest in
    record {
      spelled : Each IsSpelledClass left;
      told : classes_known (chars l.name) m left trees ≡ classes_known (chars l.name) m l.manifest.classes l.templates;
      lowers : Leaves m left trees l.programs l.manifest.classes l.templates;
    }
