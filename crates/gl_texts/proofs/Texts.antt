-- The log of a turn and its whole text.
use Rattle.std.proofs.Common.{◌≡◌, ℕ, List, [], ◌∷◌, ◌++◌, map, Bool, false, Option, Some, None, refl, sym, ap, ap₂, ◌∙◌}
use Rattle.std.specs.Prelude.{codes, filter, filter_map, flat_map, not, unwrap_or}
use Rattle.gl_base.specs.Texts.{Text}
use Rattle.gl_meaning.specs.App.{App, Event}
use Rattle.gl_meaning.specs.Path.{Path, at_path, has_path}
use Rattle.gl_meaning.specs.Scope.{Source}
use Rattle.gl_meaning.specs.Known.{Among}
use Rattle.gl_meaning.specs.Changes.{Numbers, stale}
use Rattle.gl_meaning.specs.Print.{number_text, children_first, modifier_paths, modifier_values, modifier_lines, destroy_lines, tree_lines, log, head_line, missing_lines}
use Rattle.gl_meaning.specs.Session as session
use Rattle.gl_meaning.specs.Session.{Turn, first_state, applied, step}
use Rattle.gl_value.specs.Owners.{with_owners}
use Rattle.gl_value.specs.Value.{text_of}
use Rattle.gl_value.specs.Quote.{quoted}
use Rattle.gl_value.proofs.Owners.{rules_leave_owners}
use Rattle.gl_meaning.specs.Path.{V}
use Rattle.gl_plain.specs.Ids.{Id, modifier_id}
use Rattle.gl_plain.specs.State.{Thing, row, content, instance_row, block_row, modifier_row, State}
use Rattle.gl_plain.specs.Live.{Live}
use Rattle.gl_plain.specs.Machine.{StandsFor}
use Rattle.gl_plain.proofs.Roots.{standing_shows}
use Rattle.gl_naming.specs.Renamed.{there_with, state_with}
use Rattle.gl_lines.specs.Lines.{modifier_line}
use Rattle.gl_labels.specs.Laws.{names_with}
use Rattle.gl_turns.specs.Places.{node_place, modifier_in, places}
use Rattle.gl_turns.proofs.Turning.{step_is}
use Rattle.gl_follows.specs.Turns.{FollowsBy, TurnBy}
use Rattle.gl_follows.proofs.Turning.{next_by}
use Rattle.gl_texts.specs.Lines.{told_row, told_line}
use Rattle.gl_texts.specs.Laws.{InstallLines, UpdateLines, text_of_turn, FirstText, NextText}
use Rattle.gl_texts.proofs.Nested.{place_numbered}
use Rattle.gl_texts.proofs.Trees.{tree_is}
use Rattle.gl_texts.proofs.Told.{mods_told}
use Rattle.gl_texts.proofs.Destroyed.{destroyed_is}

-- Names don't matter

named_text : (f : Path → Path) (v : V) → text_of (with_owners f v) ≡ text_of v
named_text f v = (rules_leave_owners f v).1

values_named : (f : Path → Path) (vs : List V) → flat_map (λ v. 32 ∷ quoted (text_of v)) (map (with_owners f) vs) ≡ flat_map (λ v. 32 ∷ quoted (text_of v)) vs
values_named f [] = refl
values_named f (v ∷ vs) = ap₂ (λ t us. (32 ∷ quoted t) ++ us) (named_text f v) (values_named f vs)

names_named : (f : Path → Path) (ns : List (Text × V)) → flat_map (λ n. 32 ∷ (n.0 ++ 61 ∷ quoted (text_of n.1))) (names_with f ns) ≡ flat_map (λ n. 32 ∷ (n.0 ++ 61 ∷ quoted (text_of n.1))) ns
names_named f [] = refl
names_named f (n ∷ ns) = ap₂ (λ t us. (32 ∷ (n.0 ++ 61 ∷ quoted t)) ++ us) (named_text f n.1) (names_named f ns)

told_named : (f : Path → Path) (g : Source → Source) (word : Text) (o : Option Thing) → told_row word (there_with f g o) ≡ told_row word o
told_named f g word None = refl
told_named f g word (Some (row x)) = refl
told_named f g word (Some (content c)) = refl
told_named f g word (Some (instance_row i)) = refl
told_named f g word (Some block_row) = refl
told_named f g word (Some (modifier_row x)) = ap (modifier_line word x.on_node x.name) (ap₂ (λ a b. a ++ b) (values_named f x.args) (names_named f x.names))

all_named : (f : Path → Path) (g : Source → Source) (word : Text) (look : Id → Option Thing) (ms : List ℕ) → flat_map (told_line word (λ q. there_with f g (look q))) ms ≡ flat_map (told_line word look) ms
all_named f g word look [] = refl
all_named f g word look (m ∷ ms) = ap₂ (λ a b. a ++ b) (told_named f g word (look (modifier_id m))) (all_named f g word look ms)

-- The modifiers of a machine that follows a state of a session are written as those of the rendering.
module _ (app : App) (s : session.State) (st : State) (l : Live) (h : FollowsBy app s st l) where
  abbrev now : State
  now = state_with h.named.owner h.named.source (λ x. false) st

  stands : StandsFor app s.store s.store now l
  stands = h.named.stands (λ x. false)

  numbers : (p : Path) (n : ℕ) → Among (node_place p n) (places [] l) → unwrap_or (at_path p s.numbers.of) 0 ≡ n
  numbers p n m = ap (λ (ns : Numbers). unwrap_or (at_path p ns.of) 0) (sym h.numbers) ∙ ap (λ o. unwrap_or o 0) (place_numbered app s.store s.store now l stands p n m)

  follows_told : (word : Text) (test : Path → Bool)
      → flat_map (told_line word st.look) (map (λ z. z.1) (filter (λ z. test z.0) (filter_map modifier_in (places [] l))))
      ≡ flat_map (λ q. modifier_lines (λ m. test m.path) (λ p m. word ++ (number_text p s.numbers ++ 32 ∷ (m.name ++ modifier_values m))) q) (children_first s.rendering)
  follows_told word test =
      sym (all_named h.named.owner h.named.source word st.look (map (λ z. z.1) (filter (λ z. test z.0) (filter_map modifier_in (places [] l)))))
      ∙ (mods_told app s.store s.store now l s.numbers word test stands numbers
      ∙ ap (λ f. flat_map (λ q. modifier_lines (λ m. test m.path) (λ p m. word ++ (number_text p s.numbers ++ 32 ∷ (m.name ++ modifier_values m))) q) (children_first f)) (sym (standing_shows app s.store now l stands) ∙ h.rendering))

pub installed_is : InstallLines
installed_is app s e t st l h =
    ap (flat_map (told_line (codes "install ") st.look)) h.installs ∙ follows_told app t.state st l h.follows (codes "install ") (λ p. not (has_path p (modifier_paths s.rendering)))

pub updated_is : UpdateLines
updated_is app s e t st l h =
    ap (flat_map (told_line (codes "update ") st.look)) h.updates ∙ follows_told app t.state st l h.follows (codes "update ") (λ p. stale s.rendering t.state.rendering (applied app s e).sets p)

-- The whole text

whole : (app : App) (s : session.State) (e : Option Event) (t : Turn) → step app s e ≡ Some t → (st : State) (l : Live) → TurnBy app s e t st l → (destroyed : Text)
    → destroyed ≡ flat_map (destroy_lines app s.rendering t.state.rendering (applied app s e).sets s.numbers t.state.numbers) (children_first s.rendering)
    → text_of_turn app s e st l destroyed ≡ t.text
whole app s e t h st l w destroyed gone =
    ap (λ x. head_line s.turn e ++ (missing_lines (applied app s e).missing ++ x))
    (ap₂ (λ a b. a ++ b) (tree_is app t.state st l w.follows) (ap₂ (λ a b. a ++ b) gone (ap₂ (λ a b. a ++ b) (installed_is app s e t st l w) (updated_is app s e t st l w))))
    ∙ (ap written (sym (step_is app s e t h)) ∙ ap (λ (u : Turn). u.text) (step_is app s e t h)) where
      written : Turn → Text
      written u =
          head_line s.turn e
          ++ (missing_lines (applied app s e).missing ++ (tree_lines u.state.numbers [] u.state.rendering ++ log app s.rendering u.state.rendering (applied app s e).sets s.numbers u.state.numbers))

pub first_text : FirstText
first_text app t h st l w = whole app first_state None t h st l w [] refl

pub next_text : NextText
next_text app differ s e reached t h st l fo there =
    whole app s (Some e) t h _ _ ((next_by app differ s e reached st l fo there).turned t h) _ (destroyed_is app differ s e reached t h st l fo there)
