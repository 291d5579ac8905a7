-- The sets of an event by numbers are those by paths.
use Rattle.std.proofs.Common.{◌≡◌, ◌<◌, ℕ, List, [], ◌∷◌, Bool, true, false, Some, refl, sym, ap, ap₂, ◌∙◌, subst, inl, inr}
use Rattle.std.specs.Prelude.{◌&&◌, ◌||◌}
use Rattle.std.specs.Bool.{one_answer}
use Rattle.std.specs.Str.{bytes_eq}
use Rattle.gl_meaning.specs.App.{App}
use Rattle.gl_meaning.specs.Path.{Path, path_eq, at_path}
use Rattle.gl_meaning.specs.Scope.{Source, cell, item_value, item_index}
use Rattle.gl_meaning.specs.Eval.{Held, Store, class_at, cell_value, field_member, member_of}
use Rattle.gl_meaning.specs.Known.{Among}
use Rattle.gl_meaning.specs.Laws.{HoldsNoAction}
use Rattle.gl_meaning.specs.Changes.{Sets, is_set}
use Rattle.gl_meaning.specs.Actions.{lay}
use Rattle.gl_plain.specs.Ids.{a_ref, ref}
use Rattle.gl_plain.specs.State.{Inst, cell_ref, State, source_eq, touch}
use Rattle.gl_plain.specs.Live.{Live}
use Rattle.gl_plain.specs.Turns.{begin}
use Rattle.gl_plain.specs.Machine.{StandsFor}
use Rattle.gl_naming.specs.Laws.{IsOneToOne, AreApart}
use Rattle.gl_naming.specs.Renamed.{state_with}
use Rattle.gl_naming.specs.Numbered.{number}
use Rattle.gl_naming.specs.Named.{Named, Given, OwnTouched}
use Rattle.gl_naming.specs.Ties.{values, owners_in, sources_in, own_tie, no_tie, cells_tie, item_tie}
use Rattle.gl_naming.proofs.Exist.{source-Decides}
use Rattle.gl_naming.proofs.Named.{touch_renamed, set_given}
use Rattle.gl_turns.specs.Evaluated.{is_named}
use Rattle.gl_turns.specs.Sets.{set_at, set_one, set_all}
use Rattle.gl_turns.proofs.Found.{at_gives}
use Rattle.gl_turns.proofs.Setting.{sets_are_laid}
use Rattle.gl_follows.specs.Sets.{set_at_by, set_one_by, set_all_by, IsThere, AreThere}
use Rattle.gl_follows.specs.Laws.{SetsBy}
use Rattle.gl_follows.proofs.Tied.{insts, tied, cell_tied, rows_of, named_source}

-- What is told of a set that is there: its reference was given, it is the tree's, and the name of its number is the cell.
pub record Told (app : App) (g : Source → Source) (n : ℕ) (l : Live) (h : Held) : Type 0 where
  pub inst : Inst
  pub at : at_path h.instance (insts (Rattle.gl_turns.specs.Places.places [] l)) ≡ Some inst
  pub field : member_of (class_at app h.instance) h.field ≡ field_member
  pub named : g (number (cell_ref inst h.field)) ≡ cell h.instance h.field
  pub low : cell_ref inst h.field < n
  pub cells : Among (cell_ref inst h.field, cell h.instance h.field) (sources_in l)
  pub owners : Among h.instance (values (owners_in l))

abbrev pub AllTold : App → (Source → Source) → ℕ → Live → Sets → Type 0
AllTold app g n l [] = Unit {0}
AllTold app g n l (h ∷ hs) = Told app g n l h × AllTold app g n l hs

among_value : {A : Type 0} (y : ℕ × A) (xs : List (ℕ × A)) → Among y xs → Among y.1 (values xs)
among_value y [] m = absurd m
among_value {A} y (x ∷ xs) (inl e) = inl (ap (λ (z : ℕ × A). z.1) e)
among_value y (x ∷ xs) (inr m) = inr (among_value y xs m)

-- the instances of a tree are its owners
pub inst_owner : (app : App) (σ τ : Store) (st : State) (l : Live) → StandsFor app σ τ st l → Rattle.gl_naming.specs.Sits.Sits app [] l → (z : Path × Inst) → Among z (insts (Rattle.gl_turns.specs.Places.places [] l))
    → Among z.0 (values (owners_in l))
inst_owner app σ τ st l s sits z m =
    subst (λ p. Among p (values (owners_in l))) (sym (rows_of app σ τ st l s z m).0) (among_value (z.1.id, z.1.path) (owners_in l) ((tied app own_tie no_tie [] l sits z m).1 (z.1.id, z.1.path) (inl refl)))

module _ (app : App) (σ τ : Store) (f : Path → Path) (g : Source → Source) (t : Source → Bool) (st : State) (l : Live) (s : StandsFor app σ τ (state_with f g t st) l) (given : Given app st l) where
  told : (h : Held) → IsThere app l h → Told app g (st.next a_ref) l h
  told h w =
      let z : Path × Inst = (h.instance, w.inst) in
      let mine = at_gives h.instance (insts (Rattle.gl_turns.specs.Places.places [] l)) w.inst w.at in
      let r = rows_of app σ τ (state_with f g t st) l s z mine in
      let fj : member_of (class_at app w.inst.path) h.field ≡ field_member = subst (λ q. member_of (class_at app q) h.field ≡ field_member) r.0 w.field in
      let y = named_source f g (st.next a_ref) (cell_ref w.inst h.field) (st.look (ref (cell_ref w.inst h.field))) (cell w.inst.path h.field) (cell_value app τ w.inst.path h.field) (given.rows.1 (cell_ref w.inst h.field)) (r.1 h.field fj) in
      let c = tied app cells_tie item_tie [] l given.sits z mine in
      record {
        inst = w.inst;
        at = w.at;
        field = w.field;
        named = y.0 ∙ ap (λ q. cell q h.field) (sym r.0);
        low = y.1;
        cells = subst (λ q. Among (cell_ref w.inst h.field, cell q h.field) (sources_in l)) (sym r.0) (c.1 (cell_ref w.inst h.field, cell w.inst.path h.field) (cell_tied app w.inst h.field c.0 fj));
        owners = inst_owner app σ τ (state_with f g t st) l s given.sits z mine;
      }

  pub all_told : (hs : Sets) → AreThere app l hs → AllTold app g (st.next a_ref) l hs
  all_told [] w = tt
  all_told (h ∷ hs) w = (told h w.0, all_told hs w.1)

pub or_false : (b : Bool) → (b || false) ≡ b
or_false true = refl
or_false false = refl

-- With names that are one-to-one

pub same_eq : (g : Source → Source) → AreApart g → (a b : Source) → source_eq a b ≡ source_eq (g a) (g b)
same_eq g apart a b =
    one_answer (source_eq a b) (source_eq (g a) (g b)) (source-Decides a b) ((λ e. apart a b ((source-Decides (g a) (g b)).0 e)), (λ e. (source-Decides (g a) (g b)).1 (ap g e)))

module _ (app : App) (g : Source → Source) (n : ℕ) (l : Live) where
  abbrev cell_of : (h : Held) → Told app g n l h → ℕ
  cell_of h w = cell_ref w.inst h.field

  one_is : (h : Held) (w : Told app g n l h) (st : State) → set_one app l h st ≡ touch (cell_of h w) (cell h.instance h.field) h.value st
  one_is h w st = ap₂ (λ o k. set_at o k h st) w.at w.field

  one_by_is : (h : Held) (w : Told app g n l h) (st : State) → set_one_by app l h st ≡ touch (cell_of h w) (number (cell_of h w)) h.value st
  one_by_is h w st = ap₂ (λ o k. set_at_by o k h st) w.at w.field

  -- what the sets leave as it was
  pub sets_next : (hs : Sets) → AllTold app g n l hs → (st : State) → (set_all_by app l hs st).next ≡ st.next
  sets_next [] w st = refl
  sets_next (h ∷ hs) w st = sets_next hs w.1 (set_one_by app l h st) ∙ ap (λ (s : State). s.next) (one_by_is h w.0 st)

  pub sets_evaluated : (hs : Sets) → AllTold app g n l hs → (st : State) → (set_all_by app l hs st).evaluated ≡ st.evaluated
  sets_evaluated [] w st = refl
  sets_evaluated (h ∷ hs) w st = sets_evaluated hs w.1 (set_one_by app l h st) ∙ ap (λ (s : State). s.evaluated) (one_by_is h w.0 st)

  pub sets_installs : (hs : Sets) → AllTold app g n l hs → (st : State) → (set_all_by app l hs st).installs ≡ st.installs
  sets_installs [] w st = refl
  sets_installs (h ∷ hs) w st = sets_installs hs w.1 (set_one_by app l h st) ∙ ap (λ (s : State). s.installs) (one_by_is h w.0 st)

  pub sets_updates : (hs : Sets) → AllTold app g n l hs → (st : State) → (set_all_by app l hs st).updates ≡ st.updates
  sets_updates [] w st = refl
  sets_updates (h ∷ hs) w st = sets_updates hs w.1 (set_one_by app l h st) ∙ ap (λ (s : State). s.updates) (one_by_is h w.0 st)

  -- what they touch
  pub sets_touched : AreApart g → (hs : Sets) → AllTold app g n l hs → (st : State) (k : ℕ) → (set_all_by app l hs st).touched (number k) ≡ (is_named hs (g (number k)) || st.touched (number k))
  sets_touched apart [] w st k = by (g (number k)) where
    by : (y : Source) → st.touched (number k) ≡ (is_named [] y || st.touched (number k))
    by (cell i x) = refl
    by (item_value p) = refl
    by (item_index p) = refl
  sets_touched apart (h ∷ hs) w st k =
      sets_touched apart hs w.1 (set_one_by app l h st) k
      ∙ (ap (λ b. is_named hs (g (number k)) || b)
      (ap (λ (s : State). s.touched (number k)) (one_by_is h w.0 st) ∙ ap (λ b. b || st.touched (number k)) (same_eq g apart (number k) (number (cell_of h w.0)) ∙ ap (source_eq (g (number k))) w.0.named))
      ∙ by (g (number k))) where
        moved : (a b c : Bool) → (a || (b || c)) ≡ ((b || a) || c)
        moved true true c = refl
        moved true false c = refl
        moved false true c = refl
        moved false false c = refl

        by : (y : Source) → (is_named hs y || (source_eq y (cell h.instance h.field) || st.touched (number k))) ≡ (is_named (h ∷ hs) y || st.touched (number k))
        by (cell i x) = moved (is_set hs i x) (path_eq i h.instance && bytes_eq x h.field) (st.touched (number k))
        by (item_value p) = refl
        by (item_index p) = refl

  -- and by paths they are the same
  pub sets_with : (f : Path → Path) → IsOneToOne f → AreApart g → (hs : Sets) → AllTold app g n l hs → HoldsNoAction hs → (t : Source → Bool) (st : State)
      → set_all app l hs (state_with f g t st) ≡ state_with f g (set_all app l hs (state_with f g t st)).touched (set_all_by app l hs st)
  sets_with f once apart [] w plain t st = refl
  sets_with f once apart (h ∷ hs) w plain t st =
      let y = cell h.instance h.field in
      let st1 = set_one_by app l h st in
      let t1 : Source → Bool = λ z. source_eq z y || t z in
      let e : set_one app l h (state_with f g t st) ≡ state_with f g t1 st1
      = one_is h w.0 (state_with f g t st)
      ∙ (sym (touch_renamed f g t once apart (cell_of h w.0) y h.value w.0.named plain.0 st) ∙ ap (state_with f g t1) (sym (one_by_is h w.0 st))) in
      subst (λ x. set_all app l hs x ≡ state_with f g (set_all app l hs x).touched (set_all_by app l hs st1)) (sym e) (sets_with f once apart hs w.1 plain.1 t1 st1)

  -- the tree is known as before, and what was set is its own
  pub sets_given : (σ : Store) (hs : Sets) → AllTold app g n l hs → (τ : Store) (st : State) → Given app st l → OwnTouched app σ τ st l
      → Given app (set_all_by app l hs st) l × OwnTouched app σ (lay hs τ) (set_all_by app l hs st) l
  sets_given σ [] w τ st a o = (a, o)
  sets_given σ (h ∷ hs) w τ st a o =
      let m = set_given app σ τ st l (cell_of h w.0) h.instance h.field h.value w.0.cells in
      let e = sym (one_by_is h w.0 st) in
      sets_given σ hs w.1 (h ∷ τ) (set_one_by app l h st) (subst (λ s. Given app s l) e (m.0 a)) (subst (λ s. OwnTouched app σ (h ∷ τ) s l) e (m.1 o))

  -- the instances that they name are the tree's
  pub sets_owners : (hs : Sets) → AllTold app g n l hs → (h : Held) → Among h hs → Among h.instance (values (owners_in l))
  sets_owners [] w h m = absurd m
  sets_owners (k ∷ hs) w h (inl e) = subst (λ (y : Held). Among y.instance (values (owners_in l))) (sym e) w.0.owners
  sets_owners (k ∷ hs) w h (inr m) = sets_owners hs w.1 h m

-- The sets of an event

pub source_apart : (app : App) (σ τ : Store) (st : State) (l : Live) (n : Named app σ τ st l) → AreApart n.source
source_apart app σ τ st l n x y e = sym (n.undoes x) ∙ (ap n.back e ∙ n.undoes y)

pub sets_by : SetsBy
sets_by app σ sets st l n a plain there =
    let f = n.owner in
    let g = n.source in
    let none : Source → Bool = λ x. false in
    let b = begin st in
    let x = state_with f g none b in
    let here = n.stands none in
    let begun : Given app b l = record { sits = a.sits; rows = a.rows; owners = a.owners; sources = a.sources } in
    let w = all_told app σ σ f g none b l (record { owned = record { once = here.owned.once; old = here.owned.old }; stands = here.stands }) begun sets there in
    let laid = sets_are_laid app σ sets (state_with f g none st) l here in
    let st' = set_all_by app l sets b in
    let given = sets_given app g (b.next a_ref) l σ sets w σ b begun (λ i y. inl refl) in
    let e : set_all app l sets x ≡ state_with f g (is_named sets) st'
    = sets_with app g (b.next a_ref) l f n.once (source_apart app σ σ st l n) sets w plain none b ∙ ap (λ t. state_with f g t st') (λ t y. laid.2 y t) in
    let s = subst (λ y. StandsFor app σ (lay sets σ) y l) e laid.0 in
    record {
      named = record {
        owner = f;
        source = g;
        back = n.back;
        once = n.once;
        undoes = n.undoes;
        owners = n.owners;
        sources = n.sources;
        stands = λ t. record { owned = record { once = s.owned.once; old = s.owned.old }; stands = s.stands };
      };
      given = given.0;
      own = given.1;
      just = λ r. sets_touched app g (b.next a_ref) l (source_apart app σ σ st l n) sets w b r ∙ or_false (is_named sets (g (number r)));
      is = e;
    }
