-- What is told of an update: the lines of what stood there before it, and stands there no more.
use Rattle.std.specs.Prelude.{◌≡◌, ◌⊎◌, List, [], map, filter, flat_map, not, is_some, Bool, if◌then◌else◌, nat_eq}
use Rattle.std.specs.HashSet.{contains}
use Rattle.gl_base.specs.Texts.{Text}
use Rattle.gl_ast.specs.Template.{Body}
use Rattle.gl_meaning.specs.Known.{Among}
use Rattle.gl_meaning.specs.Manifest.{Manifest}
use Rattle.gl_meaning.specs.Scope.{Source}
use Rattle.gl_opc.specs.declared.app.App.{App}
use Rattle.gl_plain.specs.Ids.{Id, instance_id, modifier_id}
use Rattle.gl_plain.specs.Live.{Live}
use Rattle.gl_machine.specs.Code.{live_of}
use Rattle.gl_machine.specs.Gone.{Gone, gone_modifier, gone_instance, has_id, gone, gone_line}
use Rattle.gl_machine.specs.Rows.{Role, a_modifier, an_instance, Row, page_rows, row_ids}
use Rattle.gl_vm.specs.View.{state_of}
use Rattle.gl_code.specs.CodeView.{seen_code}
use Rattle.gl_code.specs.Tables.{env_of, tables_of}
use Rattle.gl_code.specs.declared.page.Page.{Page}
use Rattle.gl_gone.specs.View.{Lists}
use Rattle.gl_gone.specs.Lines.{ending_line}
use Rattle.gl_gone.specs.declared.endings.Ending.{Ending}
use Rattle.gl_gone.specs.declared.endings.Ending.TheVariants as ending
use Rattle.gl_gone.specs.declared.numbers.Numbers.{Numbers}

abbrev pub id_of : Ending → Id
id_of (ending.Modifier i node name) = modifier_id i.1
id_of (ending.Instance o) = instance_id o.value.id.1

-- it stands in the list, by its number
abbrev pub stands_in : List Ending → Ending → Bool
stands_in xs x = has_id (id_of x) (map id_of xs)

-- it has one of the numbers of its kind
abbrev pub is_numbered : Numbers → Ending → Bool
is_numbered s (ending.Modifier i node name) = contains nat_eq s.modifiers i.1
is_numbered s (ending.Instance o) = contains nat_eq s.instances o.value.id.1

-- nothing for what has one of the numbers, and for all else its line
abbrev pub gone_text : Numbers → Manifest → Ending → Text
gone_text s m x = if is_numbered s x then [] else ending_line m x

-- the lines of what stood there before and stands there no more
abbrev pub destroyed_text : Manifest → List Ending → List Ending → Text
destroyed_text m before after = flat_map (ending_line m) (filter (λ x. not (stands_in after x)) before)

-- Words of the machine over trees

abbrev pub gone_id : Gone → Id
gone_id (gone_modifier k) = modifier_id k
gone_id (gone_instance i) = instance_id i.id

-- it stands in what was rendered
abbrev pub stays_in : Live → Id → Bool
stays_in l q = has_id q (row_ids (page_rows l))

abbrev pub role_of : Gone → Role
role_of (gone_modifier k) = a_modifier
role_of (gone_instance i) = an_instance

-- A test holds of a modifier or an instance of one rendering just where it stands in another.
abbrev pub TellsWhatStays : (Id → Bool) → Live → Live → Type 0
TellsWhatStays lives l l' = (x : Row) → Among x (page_rows l) → (x.role ≡ a_modifier) ⊎ (x.role ≡ an_instance) → lives x.id ≡ stays_in l' x.id

-- the lines of what of a page does not live on, read off what it keeps; the number of a node is its own
abbrev pub lines_without : App → List Body → (Source → Bool) → Page → (Id → Bool) → Text
lines_without a templates touched page lives =
    let env = env_of a templates in let n = tables_of env.manifest in
    flat_map (gone_line env.app (state_of n page.vm touched).look (λ k. k)) (gone lives (live_of (seen_code n page.code)))

-- what stands in a page
abbrev pub stays_on : App → List Body → Page → Id → Bool
stays_on a templates page q = stays_in (live_of (seen_code (tables_of (env_of a templates).manifest) page.code)) q

-- what a page keeps
abbrev pub keeps : App → List Body → (Source → Bool) → Page → Id → Bool
keeps a templates touched page q = is_some ((state_of (tables_of (env_of a templates).manifest) page.vm touched).look q)

-- Of a page of which this is the list, the text is the lines of what does not live on in another one, wherever it doesn't matter for them
-- whether what lives on is what stands in that or what that keeps.
abbrev pub Logs : App → List Ending → Page → Text → Type 0
Logs a before new t =
    (old : Page) → Lists old before → (templates : List Body) (touched later : Source → Bool)
    → lines_without a templates touched old (stays_on a templates new) ≡ lines_without a templates touched old (keeps a templates later new)
    → t ≡ lines_without a templates touched old (stays_on a templates new)
