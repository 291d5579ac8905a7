-- The old items of a list, each with what is tied to it and what holds of it: the one of an entry, and the others.
use Rattle.std.proofs.Common.{◌≡◌, ℕ, List, [], ◌∷◌, ◌++◌, Bool, true, false, true≢false, Option, Some, None, sym, ap, ap₂, ◌∙◌, subst, inl, inr, ◌⊎◌, refl}
use Rattle.std.specs.Prelude.{if◌then◌else◌, nat_eq}
use Rattle.std.proofs.lemmas.Bool.Decides.{Decides-eqb}
use Rattle.gl_value.specs.Value.{undefined, same}
use Rattle.gl_ast.specs.Template as t
use Rattle.gl_meaning.specs.App.{App}
use Rattle.gl_meaning.specs.Path.{PathStep, item, Path, no_owners}
use Rattle.gl_meaning.specs.Eval.{Store}
use Rattle.gl_meaning.specs.Known.{Among}
use Rattle.gl_meaning.specs.Render.{Entry}
use Rattle.gl_meaning.proofs.Equal.{both_left, both_right, both_true, same_means, same_itself, no_owners-Decides}
use Rattle.gl_meaning.proofs.Pieces.{among_either, among_left, among_right}
use Rattle.gl_plain.specs.Naming.{by_number}
use Rattle.gl_plain.specs.Live
use Rattle.gl_plain.specs.Live.{Items}
use Rattle.gl_plain.specs.Renew.{Handle, is_of, with_front, taken, handles_as}
use Rattle.gl_naming.proofs.Sits.{step_of, StepIn, SitsItems, SitsIn}
use Rattle.gl_naming.proofs.Swaps.{values, value_either, value_left, value_right}

abbrev item_key : PathStep → t.Plain
item_key (item k n) = k
item_key _ = undefined

abbrev item_place : PathStep → ℕ
item_place (item k n) = n
item_place _ = 0

-- the item's step is the entry's
pub step_same : (x : Entry) (h : Handle) → is_of x h ≡ true → item x.key x.occurrence ≡ step_of h.spot
step_same x h e =
    ap₂ (λ a n. item a n) (same_means ⊥ no_owners no_owners-Decides x.key h.spot.key (both_left _ _ e))
    ((Decides-eqb x.occurrence h.spot.occurrence).0 (both_right (same no_owners x.key h.spot.key) _ e))

pub step_other : (x : Entry) (h : Handle) → is_of x h ≡ false → item x.key x.occurrence ≡ step_of h.spot → ⊥
step_other x h e d =
    let key : x.key ≡ h.spot.key = ap item_key d in
    let n : x.occurrence ≡ h.spot.occurrence = ap item_place d in
    let is : is_of x h ≡ true = both_true (same no_owners x.key h.spot.key) (nat_eq x.occurrence h.spot.occurrence)
    (subst (λ k. same no_owners x.key k ≡ true) key (same_itself ⊥ no_owners no_owners-Decides x.key)) ((Decides-eqb x.occurrence h.spot.occurrence).1 n) in
    true≢false (sym is ∙ e)

-- one of these is at the step
abbrev pub HandleAt : List Handle → PathStep → Type 0
HandleAt [] l = ⊥
HandleAt (h ∷ hs) l = (l ≡ step_of h.spot) ⊎ HandleAt hs l

module _ (app : App) (p : Path) where
  -- each is at its step, which no later one has
  abbrev pub HandlesSit : List Handle → Type 0
  HandlesSit [] = Unit {0}
  HandlesSit (h ∷ hs) = (HandleAt hs (step_of h.spot) → ⊥) × SitsIn app (step_of h.spot ∷ p) 0 h.lives × HandlesSit hs

  module _ (σ : Store) (m : ℕ) (c : t.Body) where
    handle_step : (is : Items) (l : PathStep) → HandleAt (handles_as by_number app σ m c is) l → StepIn is l
    handle_step Live.no_items l w = w
    handle_step (Live.item_live z k ls is) l (inl e) = inl e
    handle_step (Live.item_live z k ls is) l (inr w) = inr (handle_step is l w)

    pub handles_sit : (is : Items) → SitsItems app p is → HandlesSit (handles_as by_number app σ m c is)
    handles_sit Live.no_items s = tt
    handles_sit (Live.item_live z k ls is) s = ((λ w. s.0 (handle_step is (step_of z) w)), s.1, handles_sit is s.2)

  module _ {A : Type 0} (tied : Handle → List (ℕ × A)) (Holds : Handle → Type 0) where
    abbrev pub all_tied : List Handle → List (ℕ × A)
    all_tied [] = []
    all_tied (h ∷ hs) = tied h ++ all_tied hs

    abbrev pub AllHold : List Handle → Type 0
    AllHold [] = Unit {0}
    AllHold (h ∷ hs) = Holds h × AllHold hs

    -- the old item of an entry, and the others
    pub record Parted (x : Entry) (hs : List Handle) (h : Handle) (rest : List Handle) : Type 0 where
      pub is : is_of x h ≡ true
      pub holds : Holds h
      pub others : AllHold rest
      pub sits : SitsIn app (step_of h.spot ∷ p) 0 h.lives
      pub rest_sits : HandlesSit rest
      pub off : HandleAt rest (step_of h.spot) → ⊥
      pub among : (l : PathStep) → HandleAt rest l → HandleAt hs l
      pub own : (y : ℕ × A) → Among y (tied h) → Among y (all_tied hs)
      pub left : (y : ℕ × A) → Among y (all_tied rest) → Among y (all_tied hs)
      pub either : (v : A) → Among v (values (all_tied hs)) → Among v (values (tied h)) ⊎ Among v (values (all_tied rest))

    abbrev pub Taken : Entry → List Handle → Option (Handle × List Handle) → Type 0
    Taken x hs None = HandleAt hs (item x.key x.occurrence) → ⊥
    Taken x hs (Some k) = Parted x hs k.0 k.1

    front_parted : (x : Entry) (h : Handle) (hs : List Handle) → is_of x h ≡ false → Holds h → HandlesSit (h ∷ hs) → (o : Option (Handle × List Handle)) → Taken x hs o → Taken x (h ∷ hs) (with_front h o)
    front_parted x h hs e w s None k = λ u. elim u [ inl d ↦ step_other x h e d | inr d ↦ k d ]
    front_parted x h hs e w s (Some y) k = record {
      is = k.is;
      holds = k.holds;
      others = (w, k.others);
      sits = k.sits;
      rest_sits = ((λ u. s.0 (k.among (step_of h.spot) u)), s.1, k.rest_sits);
      off = λ u. elim u [ inl d ↦ step_other x h e (step_same x y.0 k.is ∙ d) | inr d ↦ k.off d ];
      among = λ l u. elim u [ inl d ↦ inl d | inr d ↦ inr (k.among l d) ];
      own = λ z u. among_right z (tied h) (all_tied hs) (k.own z u);
      left = λ z u. elim (among_either z (tied h) (all_tied y.1) u) [
        | inl d ↦ among_left z (tied h) (all_tied hs) d
        | inr d ↦ among_right z (tied h) (all_tied hs) (k.left z d)
      ];
      either = λ v u. elim (value_either v (tied h) (all_tied hs) u) [
        | inl d ↦ inr (value_left v (tied h) (all_tied y.1) d)
        | inr d ↦ elim (k.either v d) [ inl a ↦ inl a | inr a ↦ inr (value_right v (tied h) (all_tied y.1) a) ]
      ];
    }

    pub taken_parted : (x : Entry) (hs : List Handle) → AllHold hs → HandlesSit hs → Taken x hs (taken x hs)
    taken_parted x [] w s = λ u. u
    taken_parted x (h ∷ hs) w s = by (is_of x h) refl (taken_parted x hs w.1 s.2) where
      by : (b : Bool) → is_of x h ≡ b → Taken x hs (taken x hs) → Taken x (h ∷ hs) (if b then Some (h, hs) else with_front h (taken x hs))
      by true e k = record {
        is = e;
        holds = w.0;
        others = w.1;
        sits = s.1;
        rest_sits = s.2;
        off = s.0;
        among = λ l u. inr u;
        own = λ z u. among_left z (tied h) (all_tied hs) u;
        left = λ z u. among_right z (tied h) (all_tied hs) u;
        either = λ v u. value_either v (tied h) (all_tied hs) u;
      }
      by false e k = front_parted x h hs e w.0 s (taken x hs) k
