-- What the code's list of what is due stands for.
use Rattle.std.specs.Prelude.{◌≡◌, List, ◌++◌, Bool, true, false, codes, drop, map, reverse, Some, None, Result, Ok, Err}
use Rattle.gl_base.specs.Texts.{Text}
use Rattle.gl_parse.specs.Due as d
use Rattle.gl_parse.specs.declared.due.Due.{Due}
use Rattle.gl_parse.specs.declared.due.Due.TheVariants as due
use Rattle.gl_parse.specs.declared.due.Quoted.{Quoted}
use Rattle.gl_parse.specs.declared.due.Quoted.TheVariants as quoted
use Rattle.gl_parse.specs.declared.due.Stop.{Stop}
use Rattle.gl_parse.specs.declared.due.Stop.TheVariants as stop
use Rattle.gl_parse.specs.declared.due.Tag.{Tag}
use Rattle.gl_parse.specs.declared.due.Word.{Word}
use Rattle.gl_parse.specs.declared.due.Word.TheVariants as word

abbrev pub word_text : Word → Text
word_text word.If = codes "if"
word_text word.Unless = codes "unless"
word_text word.Each = codes "each"
word_text word.Let = codes "let"

abbrev pub stop_view : Stop → d.Stop
stop_view stop.Whole = d.whole
stop_view (stop.Tag opening) = d.tag (drop 1 opening.now)
stop_view (stop.Block w otherwise) = d.block (word_text w) otherwise

abbrev pub quoted_view : Quoted → d.Quoted
quoted_view quoted.Nothing = d.nothing
quoted_view quoted.Text = d.text
quoted_view quoted.Texts = d.texts
quoted_view quoted.Live = d.live

abbrev pub name_of : Tag → Text
name_of g = drop 1 g.opening.now

abbrev pub due_view : Due → d.Due
due_view (due.Kind kind) = d.kind kind
due_view (due.Word w) = d.word (word_text w)
due_view (due.Expr calls) = d.expr calls
due_view (due.Called calls end) = d.called calls end
due_view (due.Arguments calls end) = d.arguments calls end
due_view (due.AfterName calls end) = d.after_name calls end
due_view (due.Named calls end) = d.named calls end
due_view due.Inner = d.inner
due_view due.Values = d.values
due_view due.AfterTo = d.after_to
due_view due.Target = d.target
due_view due.Value = d.value
due_view (due.Quoted q) = d.quoted (quoted_view q)
due_view (due.Items g) = d.items (name_of g) g.component g.depth
due_view (due.Given g) = d.given (name_of g) g.component g.depth
due_view (due.TagEnd g bare) = d.tag_end (name_of g) bare g.depth
due_view (due.Filling depth opening) = d.filling depth (drop 1 opening.now)
due_view (due.Slots depth opening names) = d.slots depth (drop 1 opening.now) names
due_view (due.SlotTag depth opening) = d.slot_tag depth (drop 1 opening.now)
due_view (due.Content depth s) = d.content depth (stop_view s)
due_view (due.Opened depth s) = d.opened depth (stop_view s)
due_view (due.AfterElse depth w) = d.after_else depth (word_text w)
due_view (due.Head depth) = d.head depth
due_view (due.FirstValue depth s) = d.first_value depth (stop_view s)
due_view (due.MoreValues depth s) = d.more_values depth (stop_view s)
due_view (due.EachKey depth s) = d.each_key depth (stop_view s)
due_view (due.EachParameters depth s) = d.each_parameters depth (stop_view s)

-- the first of what is due is the last of the vector
abbrev pub seen : List Due → List d.Due
seen ds = reverse (map due_view ds)

-- The answer is whether the token can stand there, and then what it leaves due has been put in front.
abbrev pub Meets : {E : Type 0} → Result Bool E → d.Dues → List d.Due → List d.Due → Type 0
Meets (Ok true) (Some l) old new = new ≡ l ++ old
Meets (Ok false) None old new = Unit {0}
Meets (Ok _) _ old new = ⊥
Meets (Err e) o old new = Unit {0}

-- The answer is whether the token can stand next, and then this is what is due.
abbrev pub IsStep : {E : Type 0} → Result Bool E → d.Dues → List d.Due → Type 0
IsStep (Ok true) (Some l) new = new ≡ l
IsStep (Ok false) None new = Unit {0}
IsStep (Ok _) _ new = ⊥
IsStep (Err e) o new = Unit {0}
