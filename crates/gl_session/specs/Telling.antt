-- What is written of a turn.
use Rattle.std.specs.Prelude.{◌≡◌, ℕ, List, [], ◌++◌, flat_map, Some, codes}
use Rattle.gl_base.specs.Texts.{Text}
use Rattle.gl_meaning.specs.App as m
use Rattle.gl_meaning.specs.Print.{head_line, missing_lines}
use Rattle.gl_meaning.specs.View.{manifest_view}
use Rattle.gl_opc.specs.declared.app.App.{App}
use Rattle.gl_nodes.specs.Tree.{node_at}
use Rattle.gl_nodes.specs.Flat.{IsFlat}
use Rattle.gl_print.specs.Lines.{lines}
use Rattle.gl_mods.specs.Mods.{IsSound}
use Rattle.gl_vm.specs.declared.vm.Vm.{Vm}
use Rattle.gl_code.specs.Tables.{tables_of}
use Rattle.gl_code.specs.declared.page.Page.{Page}
use Rattle.gl_gone.specs.Logs.{Logs}
use Rattle.gl_gone.specs.declared.endings.Ending.{Ending}
use Rattle.gl_session.specs.Writing.{told_id}

-- the lists of what was installed and updated are empty
abbrev pub committed : Vm → Vm
committed vm = record vm { mods = record vm.mods { installs = []; updates = [] } }

-- what was installed, and then what was updated
abbrev pub log_text : App → Vm → Text
log_text a vm =
    let n = tables_of (manifest_view a.manifest) in flat_map (told_id (codes "install ") n vm) vm.mods.installs ++ flat_map (told_id (codes "update ") n vm) vm.mods.updates

-- The text of a turn after an update of a page, in which this stood before: the head, the fires for which there was nothing, the tree with each
-- node's own number, what was destroyed, installed and updated, which is committed then.
pub record Tells (a : App) (page : Page) (before : List Ending) (turn : ℕ) (e : m.Event) (missing : List ℕ) (new : Page) (text : Text) : Type 0 where
  pub flat : IsFlat page.vm.tree
  pub sound : IsSound page.vm.mods
  pub destroyed : Text
  pub logs : Logs a before page destroyed
  pub told : text ≡ (head_line turn (Some e) ++ (missing_lines missing ++ lines (node_at page.vm.tree) (λ i. i.1) [] page.vm.tree.forest)) ++ (destroyed ++ log_text a page.vm)
  pub vm : new.vm ≡ committed page.vm
  pub code : new.code ≡ page.code
