-- What is written of what an update destroyed.
use Rattle.std.specs.Prelude.{◌≡◌, ◌⊎◌, ◌++◌, List, [], true}
use Rattle.std.specs.List.{list_all}
use Rattle.gl_base.specs.Texts.{Text}
use Rattle.gl_meaning.specs.Manifest.{Manifest}
use Rattle.gl_meaning.specs.View.{manifest_view}
use Rattle.gl_opc.specs.declared.app.App.{App}
use Rattle.gl_code.specs.declared.page.Page.{Page}
use Rattle.gl_gone.specs.View.{is_live, Lists}
use Rattle.gl_gone.specs.Logs.{destroyed_text, Logs}
use Rattle.gl_gone.specs.declared.endings.Ending.{Ending}

-- Nothing, where all that stood there before lives in the page's machine by its id. Else it is the lines of what doesn't stand in the page.
abbrev pub IsTold : Manifest → List Ending → Page → Text → Type 0
IsTold m before page t =
    ((list_all (is_live page.vm) before ≡ true) × (t ≡ []))
    ⊎ ((after : List Ending) × Lists page after × (t ≡ destroyed_text m before after))

-- The text is put behind what was there: so it logs what of the page before does not live on in the page.
pub record Writes (a : App) (before : List Ending) (page : Page) (old new : Text) : Type 0 where
  pub text : Text
  pub put : new ≡ old ++ text
  pub told : IsTold (manifest_view a.manifest) before page text
  pub logs : Logs a before page text
