-- A whole turn by numbers.
use Rattle.std.proofs.Common.{◌≡◌, ℕ, suc, List, [], ◌∷◌, ◌++◌, map, true, false, sym, ap, subst, inl, inr, refl}
use Rattle.gl_meaning.specs.Actions.{lay}
use Rattle.gl_meaning.specs.App.{App}
use Rattle.gl_meaning.specs.Path.{at, main, otherwise, items, item, slot, Path}
use Rattle.gl_meaning.specs.Scope.{Source, cell, item_value, item_index}
use Rattle.gl_meaning.specs.Eval.{Held, Store}
use Rattle.gl_meaning.specs.Known.{Among}
use Rattle.gl_meaning.specs.Laws.{HoldsNoAction, source_path}
use Rattle.gl_meaning.proofs.Pieces.{among_either}
use Rattle.gl_plain.specs.State.{State, Names, touch}
use Rattle.gl_plain.specs.Turns.{begin}
use Rattle.gl_plain.specs.Live.{Live, still, put_live, element_live, branch_live, listed, unlisted, let_live, component_live, yield_live, deep_live, Items, no_items, item_live, Lives, no_lives, live_and, times}
use Rattle.gl_naming.specs.Exist.{FieldsDiffer}
use Rattle.gl_naming.specs.Numbered.{number, Unlisted}
use Rattle.gl_naming.specs.Named as spec
use Rattle.gl_naming.specs.Named.{OwnTouched, AreCells, set_numbers, TurnNamed}
use Rattle.gl_naming.specs.Ties.{values, owners_in}
use Rattle.gl_naming.proofs.Swaps.{value_left, value_right}
use Rattle.gl_naming.proofs.Ties.{ties, ties_items, ties_in, own_tie, no_tie, cell_ties, cells_tie, item_tie}
use Rattle.gl_naming.proofs.Named.{begun_named, set_given, set_named, updated_named}
use Rattle.gl_naming.proofs.Initial.{new_initial}
use Rattle.gl_base.specs.Texts.{Text}

-- A cell of the tree is of one of its instances.

module _ (r : ℕ) (i0 : Path) (x0 : Text) where
  abbrev Tie : List (ℕ × Source) → Type 0
  Tie xs = Among (r, cell i0 x0) xs

  abbrev Own : List (ℕ × Path) → Type 0
  Own xs = Among i0 (values xs)

  cell_of : (p : Path) (cs : Names) → Tie (cell_ties p cs) → i0 ≡ p
  cell_of p [] m = absurd m
  cell_of p (c ∷ cs) (inl e) = ap (λ (y : ℕ × Source). source_path y.1) e
  cell_of p (c ∷ cs) (inr m) = cell_of p cs m

  no_item : (n : ℕ) (y : Source) → (cell i0 x0 ≡ y → ⊥) → ◌≡◌ {A = ℕ × Source} (r, cell i0 x0) (n, y) → ⊥
  no_item n y ne e = ne (ap (λ (z : ℕ × Source). z.1) e)

  cell_value_apart : (q : Path) → cell i0 x0 ≡ item_value q → ⊥
  cell_value_apart q e = cc

  cell_index_apart : (q : Path) → cell i0 x0 ≡ item_index q → ⊥
  cell_index_apart q e = cc

  mutual
    pub owner_of : (p : Path) (l : Live) → Tie (ties cells_tie item_tie p l) → Own (ties own_tie no_tie p l)
    owner_of p (still n) m = absurd m
    owner_of p (put_live n z) m = absurd m
    owner_of p (element_live n made xs zs ls) m = owner_in p 0 ls m
    owner_of p (branch_live z true k ls) m = owner_in (main ∷ p) 0 ls m
    owner_of p (branch_live z false k ls) m = owner_in (otherwise ∷ p) 0 ls m
    owner_of p (listed z is) m = owner_items (items ∷ p) is m
    owner_of p (unlisted z k ls) m = owner_in (otherwise ∷ p) 0 ls m
    owner_of p (let_live made rs ls) m = owner_in (main ∷ p) 0 ls m
    owner_of p (component_live i made gm args k ls) m = elim (among_either (r, cell i0 x0) (cells_tie i) (ties_in cells_tie item_tie i.path 0 ls) m) [
      | inl a ↦ inl (cell_of i.path i.cells a)
      | inr a ↦ inr (owner_in i.path 0 ls a)
    ]
    owner_of p (yield_live n made rs ls) m = owner_in (slot n ∷ p) 0 ls m
    owner_of p (deep_live q) m = absurd m

    owner_items : (p : Path) (is : Items) → Tie (ties_items cells_tie item_tie p is) → Own (ties_items own_tie no_tie p is)
    owner_items p no_items m = absurd m
    owner_items p (item_live z k ls is) m =
        let q = item z.key z.occurrence ∷ p in
        let own = ties_in own_tie no_tie q 0 ls in
        elim (among_either (r, cell i0 x0) (item_tie q z ++ ties_in cells_tie item_tie q 0 ls) (ties_items cells_tie item_tie p is) m) [
          | inl a ↦ value_left i0 own (ties_items own_tie no_tie p is) (elim a [
            | inl e ↦ absurd (no_item z.value (item_value q) (cell_value_apart q) e)
            | inr b ↦ elim b [ inl e ↦ absurd (no_item z.index (item_index q) (cell_index_apart q) e) | inr c ↦ owner_in q 0 ls c ]
          ])
          | inr a ↦ value_right i0 own (ties_items own_tie no_tie p is) (owner_items p is a)
        ]

    owner_in : (p : Path) (i : ℕ) (ls : Lives) → Tie (ties_in cells_tie item_tie p i ls) → Own (ties_in own_tie no_tie p i ls)
    owner_in p i no_lives m = absurd m
    owner_in p i (live_and l ls) m = elim (among_either (r, cell i0 x0) (ties cells_tie item_tie (at i ∷ p) l) (ties_in cells_tie item_tie p (suc i) ls) m) [
      | inl a ↦ value_left i0 (ties own_tie no_tie (at i ∷ p) l) (ties_in own_tie no_tie p (suc i) ls) (owner_of (at i ∷ p) l a)
      | inr a ↦ value_right i0 (ties own_tie no_tie (at i ∷ p) l) (ties_in own_tie no_tie p (suc i) ls) (owner_in p (suc i) ls a)
    ]

-- After sets

record Set (app : App) (σ τ : Store) (st : State) (l : Live) : Type 0 where
  pub named : spec.Named app σ τ st l
  pub given : spec.Given app st l
  pub free : Unlisted (λ q. times q l) st
  pub own : OwnTouched app σ τ st l
  pub plain : HoldsNoAction τ
  pub held : (h : Held) → Among h τ → Among h.instance (values (owners_in l))

all_set : (app : App) → FieldsDiffer app → (σ τ : Store) (st : State) (l : Live) (hs : List (ℕ × Held)) → AreCells l hs → Set app σ τ st l → Set app σ (lay (map (λ h. h.1) hs) τ) (set_numbers hs st) l
all_set app differ σ τ st l [] cells s = s
all_set app differ σ τ st l (h ∷ hs) cells s =
    let i = h.1.instance in
    let x = h.1.field in
    let n = set_given app σ τ st l h.0 i x h.1.value cells.0 in
    all_set app differ σ (h.1 ∷ τ) (touch h.0 (number h.0) h.1.value st) l hs cells.2 (record {
      named = set_named app differ σ τ st l s.given h.0 i x h.1.value cells.0 cells.1 s.named;
      given = n.0 s.given;
      free = s.free;
      own = n.1 s.own;
      plain = (cells.1, s.plain);
      held = λ k m. elim m [
        | inl e ↦ subst (λ j. Among j (values (owners_in l))) (sym (ap (λ (y : Held). y.instance) e)) (owner_of h.0 i x [] l cells.0)
        | inr a ↦ s.held k a
      ];
    })

pub turn_named : TurnNamed
turn_named app differ σ plain st l held n g hs cells =
    let b = begun_named app σ σ st l in
    let τ = lay (map (λ h. h.1) hs) σ in
    let st' = set_numbers hs (begin st) in
    let s = all_set app differ σ σ (begin st) l hs cells (record { named = b.0 n; given = b.1 g; free = (tt, tt); own = λ i x. inl refl; plain = plain; held = held }) in
    (updated_named app differ σ τ plain s.plain st' l s.named s.given s.free s.own, new_initial app σ τ st' l s.named s.given τ s.held)
