-- A list that is synced by keys stands for the list of now.
use Rattle.gl_plain.specs.Reads.{ReadsLower}
use Rattle.std.proofs.Common.{◌≡◌, ℕ, suc, max, ◌+◌, ◌<◌, ◌||◌, Bool, true, false, true≢false, List, [], ◌∷◌, Option, Some, None, refl, sym, ◌∙◌, ap, ap₂, subst, arith, inl, inr}
use Rattle.std.specs.Prelude.{if◌then◌else◌}
use Rattle.std.specs.Bool.{Decides}
use Rattle.std.proofs.lemmas.Bool.Decides.{Decides-eqb}
use Rattle.gl_base.specs.Texts.{Text}
use Rattle.gl_value.specs.Value.{count_value, same}
use Rattle.gl_ast.specs.Template as t
use Rattle.gl_meaning.specs.App.{App}
use Rattle.gl_meaning.specs.Path.{item, Path, V, path_eq, no_owners}
use Rattle.gl_meaning.specs.Scope.{Source, item_value, item_index, Scope, with_locals, bind}
use Rattle.gl_meaning.specs.Eval.{Store}
use Rattle.gl_meaning.specs.Render.{Entry, entry_pairs}
use Rattle.gl_meaning.specs.Laws.{Keeps, KeepsAll, keeps_none, keeps_more}
use Rattle.gl_meaning.proofs.Once.{Later, Distinct}
use Rattle.gl_meaning.proofs.Equal.{same_means, no_owners-Decides, path_means, path_itself, both_left, both_right}
use Rattle.gl_plain.specs.Ids.{Kind, Id, id_eq, ref, hit, occurs}
use Rattle.gl_plain.specs.State.{any_of, source_form, MScope, mscope, with_names, row, Thing, State, source_eq, touch, held_value}
use Rattle.gl_plain.specs.Live.{ItemSpot, item_names, item_made, Lives, Items, times_in, times_items, times_comment}
use Rattle.gl_plain.specs.Live
use Rattle.gl_plain.specs.Grow.{ItemGrown}
use Rattle.gl_plain.specs.Renew.{give, Handle, times_handle, times_handles, is_of, with_front, taken, renew_item, sync_one, sync}
use Rattle.gl_plain.specs.Stands.{top, NamesBelow, From, CommentStands, ItemStands, StandIn, ItemsStand, Owned}
use Rattle.gl_plain.specs.Keeps.{New, item_count, EachItem, KeepIn, KeptBy}
use Rattle.gl_plain.proofs.Keeping.{keep_less, kept_less, each_item}
use Rattle.gl_plain.proofs.Moves.{Moves, both_move, then_move, recount, before_it, beside, left_owned, next_owned, same_owned, owned_after, id_case, IdCase, id_itself, hit_same, hit_self, unhit}
use Rattle.gl_plain.proofs.Stay.{Same, stay_in, item_stays, comment_stays, gives_stays, left_above, right_above}
use Rattle.gl_plain.proofs.Grows.{item_scope}
use Rattle.gl_plain.proofs.Rereads.{Cold, keeps_locals, keeps_bind, same_moves, drop_moves}
use Rattle.gl_plain.proofs.Renewing.{Ready, ready_goes, next_more, new_is_new, RenewedIn, kept_arm, from_left, from_right, made_old}

pub path-Decides : (i j : Path) → Decides (path_eq i j) (i ≡ j)
path-Decides i j = (path_means i j, λ q. subst (λ z. path_eq i z ≡ true) q (path_itself i))

some_same : (k l : Handle × List Handle) → Some k ≡ Some l → k ≡ l
some_same k l e = ap (λ o. out o) e where
  out : Option (Handle × List Handle) → Handle × List Handle
  out None = k
  out (Some z) = z

-- Giving a value

pub record Given (st st' : State) (count : Id → ℕ) (r : ℕ) (x : Source) (u v : V) : Type 0 where
  pub moves : Moves st st' count count
  pub row : st'.look (ref r) ≡ Some (row (record { form = source_form x v; last = any_of [] }))
  pub others : (q : Id) → hit q (ref r) ≡ 0 → st'.look q ≡ st.look q
  pub keeps : Cold st' x → u ≡ v

or_right_false : (a b : Bool) → (a || b) ≡ false → b ≡ false
or_right_false false b e = e
or_right_false true b e = absurd (true≢false e)

or_left_false : (a b : Bool) → (a || b) ≡ false → a ≡ false
or_left_false false b e = refl
or_left_false true b e = absurd (true≢false e)

give_by : (st : State) (count : Id → ℕ) (r : ℕ) (x : Source) (u v : V) → Owned st count → 0 < count (ref r) → source_eq x x ≡ true
    → st.look (ref r) ≡ Some (row (record { form = source_form x u; last = any_of [] })) → (b : Bool) → same path_eq (held_value (st.look (ref r))) v ≡ b
    → Given st (if b then st else touch r x v st) count r x u v
give_by st count r x u v o w self at true e =
    let is : u ≡ v = same_means Path path_eq path-Decides u v (sym (ap (λ z. same path_eq (held_value z) v) at) ∙ e) in
    record {
      moves = same_moves st count o;
      row = at ∙ ap (λ z. Some (row (record { form = source_form x z; last = any_of [] }))) is;
      others = λ q z. refl;
      keeps = λ c. is;
    }
give_by st count r x u v o w self at false e = record {
  moves = record {
    kept = λ q lt zero. other q (count_other q zero (id_case q (ref r)));
    more = λ q. omega arith;
    fewer = λ q lt. omega arith;
    once = o.once;
    old = o.old;
    still = λ y f. or_right_false (source_eq y x) (st.touched y) f;
    gone = λ q lt c z. absurd (omega (arith, c, z));
    lower = λ l n. reads_lower n (l n) (id_eq (ref n) (ref r));
  };
  row = ap (λ b. if b then Some (row (record { form = source_form x v; last = any_of [] })) else st.look (ref r)) (id_itself (ref r));
  others = λ q z. other q (unhit q (ref r) z);
  keeps = λ c. absurd (true≢false (sym self ∙ or_left_false (source_eq x x) (st.touched x) c));
} where
  reads_lower : (n : ℕ) → ReadsLower n (st.look (ref n)) → (b : Bool) → ReadsLower n (if b then Some (row (record { form = source_form x v; last = any_of [] })) else st.look (ref n))
  reads_lower n l true = tt
  reads_lower n l false = l

  count_other : (q : Id) → count q ≡ 0 → IdCase q (ref r) → id_eq q (ref r) ≡ false
  count_other q z (inl k) = let j : count q ≡ count (ref r) = ap count k.1 in absurd (omega (arith, z, j, w))
  count_other q z (inr k) = k

  other : (q : Id) → id_eq q (ref r) ≡ false → (touch r x v st).look q ≡ st.look q
  other q k = ap (λ b. if b then Some (row (record { form = source_form x v; last = any_of [] })) else st.look q) k

pub give_is : (st : State) (count : Id → ℕ) (r : ℕ) (x : Source) (u v : V) → Owned st count → 0 < count (ref r) → source_eq x x ≡ true
    → st.look (ref r) ≡ Some (row (record { form = source_form x u; last = any_of [] })) → Given st (give r x v st) count r x u v
give_is st count r x u v o w self at = give_by st count r x u v o w self at (same path_eq (held_value (st.look (ref r))) v) refl

module _ (app : App) (σ τ : Store) (m b : ℕ) (ms : MScope) (p : Path) (ns : List Text) (c : t.Body) where
  -- an old item stands for an entry of before
  pub record HandleAt (v : Scope) (look : Id → Option Thing) (h : Handle) (y : Entry) : Type 0 where
    pub stands : ItemStands app σ τ look (item y.key y.occurrence ∷ p) ms ns y h.spot
    pub low : NamesBelow (max b (top (item_made h.spot))) (item_names ns h.spot)
    pub from : From (max b (top (item_made h.spot))) (λ r. times_in r h.lives)
    pub comment : CommentStands app σ τ look h.comment h.lives
    pub inside : StandIn app σ τ look m (max b (top (item_made h.spot))) (with_locals (bind ns (entry_pairs (item y.key y.occurrence ∷ p) y)) v)
        (with_names (item_names ns h.spot) ms) (item y.key y.occurrence ∷ p) 0 c h.lives

  pub record HandleStands (v : Scope) (look : Id → Option Thing) (h : Handle) : Type 0 where
    pub entry : Entry
    pub is : HandleAt v look h entry

  abbrev pub EachHandle : Scope → (Id → Option Thing) → List Handle → Type 0
  EachHandle v look [] = Unit {0}
  EachHandle v look (h ∷ hs) = HandleStands v look h × EachHandle v look hs

  -- what is to be done to it is right
  abbrev pub GoesRight : Handle → Type 0
  GoesRight h =
      (b' : ℕ) (v w : Scope) (ms' : MScope) (q : Path) (st : State) → Owned st (λ r. times_in r h.lives) → From b' (λ r. times_in r h.lives)
      → StandIn app σ τ st.look m b' v ms' q 0 c h.lives → Ready app σ τ b' st ms' v w → RenewedIn app σ τ m b' w ms' q 0 c st h.lives (h.go ms' q st)

  abbrev pub AllRight : List Handle → Type 0
  AllRight [] = Unit {0}
  AllRight (h ∷ hs) = GoesRight h × AllRight hs

  handle_stays : (v : Scope) (look look' : Id → Option Thing) (h : Handle) → Same look look' (λ q. times_handle q h) → HandleStands v look h → HandleStands v look' h
  handle_stays v look look' h same k = record {
    entry = k.entry;
    is = record {
      stands = item_stays app look look' σ τ _ ms ns k.entry h.spot (λ q w. same q (left_above _ _ w)) k.is.stands;
      low = k.is.low;
      from = k.is.from;
      comment = comment_stays app look look' σ τ h.comment h.lives (λ q w. same q (right_above _ _ (right_above _ _ w))) k.is.comment;
      inside = stay_in app look look' σ τ m _ _ _ _ 0 c h.lives (λ q w. same q (right_above _ _ (left_above _ _ w))) k.is.inside;
    };
  }

  handles_stay : (v : Scope) (look look' : Id → Option Thing) (hs : List Handle) → Same look look' (λ q. times_handles q hs) → EachHandle v look hs → EachHandle v look' hs
  handles_stay v look look' [] same k = tt
  handles_stay v look look' (h ∷ hs) same k = (handle_stays v look look' h (λ q w. same q (left_above _ _ w)) k.0, handles_stay v look look' hs (λ q w. same q (right_above _ _ w)) k.1)

  -- the item of a key, and the others
  abbrev Parted : Entry → List Handle → Option (Handle × List Handle) → Type 0
  Parted x olds None = Unit {0}
  Parted x olds (Some o) =
      ((q : Id) → times_handles q olds ≡ times_handle q o.0 + times_handles q o.1)
      × ((v : Scope) (look : Id → Option Thing) → EachHandle v look olds → HandleStands v look o.0 × EachHandle v look o.1)
      × (AllRight olds → GoesRight o.0 × AllRight o.1)
      × (is_of x o.0 ≡ true)
      × ((y : Entry) → is_of y o.0 ≡ false → taken y o.1 ≡ None → taken y olds ≡ None)

  none_front : (y : Entry) (h : Handle) (hs : List Handle) → is_of y h ≡ false → taken y hs ≡ None → taken y (h ∷ hs) ≡ None
  none_front y h hs f g = ap₂ (λ d o. if d then Some (h, hs) else with_front h o) f g

  front_by : (d : Bool) (h : Handle) (hs : List Handle) (o : Option (Handle × List Handle)) → (if d then Some (h, hs) else with_front h o) ≡ None → (d ≡ false) × (o ≡ None)
  front_by true h hs o g = absurd cc
  front_by false h hs None g = (refl, refl)
  front_by false h hs (Some o) g = absurd cc

  pub front_other : (y : Entry) (h : Handle) (hs : List Handle) → taken y (h ∷ hs) ≡ None → is_of y h ≡ false
  front_other y h hs g = (front_by (is_of y h) h hs (taken y hs) g).0

  pub front_none : (y : Entry) (h : Handle) (hs : List Handle) → taken y (h ∷ hs) ≡ None → taken y hs ≡ None
  front_none y h hs g = (front_by (is_of y h) h hs (taken y hs) g).1

  parted_by : (x : Entry) (h : Handle) (hs : List Handle) (is : Bool) → is_of x h ≡ is → (o : Option (Handle × List Handle)) → Parted x hs o
      → Parted x (h ∷ hs) (if is then Some (h, hs) else with_front h o)
  parted_by x h hs true e o k = ((λ q. refl), (λ v look g. g), (λ g. g), e, λ y f g. none_front y h hs f g)
  parted_by x h hs false e None k = tt
  parted_by x h hs false e (Some o) k = (
    (λ q. let i = k.0 q in omega (arith, i)),
    (λ v look g. let i = k.1 v look g.1 in (i.0, (g.0, i.1))),
    (λ g. let i = k.2 g.1 in (i.0, (g.0, i.1))),
    k.3,
    λ y f g. none_front y h hs (front_other y h o.1 g) (k.4 y f (front_none y h o.1 g)),
  )

  parted : (x : Entry) (olds : List Handle) → Parted x olds (taken x olds)
  parted x [] = tt
  parted x (h ∷ hs) = parted_by x h hs (is_of x h) refl (taken x hs) (parted x hs)

  -- One item

  pub record ItemRenewed (w : Scope) (x : Entry) (st : State) (count : Id → ℕ) (g : ItemGrown) : Type 0 where
    pub moves : Moves st g.arm.state count (λ q. occurs q (item_made g.spot) + (times_in q g.arm.lives + times_comment q g.arm.comment))
    pub stands : ItemStands app τ τ g.arm.state.look (item x.key x.occurrence ∷ p) ms ns x g.spot
    pub low : NamesBelow (max b (top (item_made g.spot))) (item_names ns g.spot)
    pub from : From (max b (top (item_made g.spot))) (λ r. times_in r g.arm.lives)
    pub comment : CommentStands app τ τ g.arm.state.look g.arm.comment g.arm.lives
    pub inside : StandIn app τ τ g.arm.state.look m (max b (top (item_made g.spot))) (with_locals (bind ns (entry_pairs (item x.key x.occurrence ∷ p) x)) w)
        (with_names (item_names ns g.spot) ms) (item x.key x.occurrence ∷ p) 0 c g.arm.lives

  -- the same item of before, with its key and occurrence as they are now
  same_entry : (x y : Entry) (h : Handle) → is_of x h ≡ true → h.spot.key ≡ y.key → h.spot.occurrence ≡ y.occurrence
      → y ≡ record { key = x.key; occurrence = x.occurrence; value = y.value; index = y.index }
  same_entry x y h e k o =
      ap₂ (λ a n. record { key = a; occurrence = n; value = y.value; index = y.index })
      (sym k ∙ sym (same_means ⊥ no_owners no_owners-Decides x.key h.spot.key (both_left _ _ e)))
      (sym o ∙ sym ((Decides-eqb x.occurrence h.spot.occurrence).0 (both_right (same no_owners x.key h.spot.key) _ e)))

  pub with_entry : (v : Scope) (look : Id → Option Thing) (x : Entry) (h : Handle) → is_of x h ≡ true → (k : HandleStands v look h)
      → HandleAt v look h (record { key = x.key; occurrence = x.occurrence; value = k.entry.value; index = k.entry.index })
  with_entry v look x h e k = subst (HandleAt v look h) (same_entry x k.entry h e k.is.stands.0 k.is.stands.1) k.is

  pair_keeps : (U : Source → Type 0) (s : Source) (u v : V) → (U s → u ≡ v) → Keeps U (record { value = u; sources = s ∷ [] }) (record { value = v; sources = s ∷ [] })
  pair_keeps U s u v f h = ap (λ z. record { value = z; sources = s ∷ [] }) (f h.0)

-- the scope in an item, with its new value and index
pub item_ready : (app : App) (σ τ : Store) (b : ℕ) (st : State) (ms : MScope) (v w : Scope) (q : Path) (ns : List Text) (y x : Entry) (z : ItemSpot)
    → Ready app σ τ b st ms v w → Owned st (λ r. occurs r (item_made z)) → ItemStands app τ τ st.look q ms ns x z → NamesBelow (max b (top (item_made z))) (item_names ns z)
    → KeepsAll (Cold st) (entry_pairs q y) (entry_pairs q x)
    → Ready app σ τ (max b (top (item_made z))) st (with_names (item_names ns z) ms) (with_locals (bind ns (entry_pairs q y)) v) (with_locals (bind ns (entry_pairs q x)) w)
item_ready app σ τ b st (mscope i a l u) v w q ns y x z r o h low k = record {
  low = made_old app σ τ b st (item_made z) r.low o;
  scope = item_scope app τ b q i a l u w ns x z st.look h low r.scope;
  keeps = keeps_locals (Cold st) r.keeps (keeps_bind (Cold st) ns k);
  cells = r.cells;
}

module _ (app : App) (σ τ : Store) (m b : ℕ) (ms : MScope) (p : Path) (ns : List Text) (c : t.Body) where
  pub item_renews : (v w : Scope) (x : Entry) (h : Handle) (u : V) (n : ℕ) (st : State) → let q = item x.key x.occurrence ∷ p in
      Owned st (λ r. times_handle r h) → From b (λ r. times_handle r h) → GoesRight app σ τ m b ms p ns c h → Ready app σ τ b st ms v w
      → HandleAt app σ τ m b ms p ns c v st.look h (record { key = x.key; occurrence = x.occurrence; value = u; index = n })
      → ItemRenewed app σ τ m b ms p ns c w x st (λ r. times_handle r h) (renew_item ns ms q x h st) × KeepIn st.next h.lives (renew_item ns ms q x h st).arm.lives
  item_renews v w x h u n st o from right r k =
      let q = item x.key x.occurrence ∷ p in
      let y : Entry = record { key = x.key; occurrence = x.occurrence; value = u; index = n } in
      let z = h.spot in
      let made = item_made z in
      let ca : Id → ℕ = λ i. occurs i made in
      let cr : Id → ℕ = λ i. times_in i h.lives + times_comment i h.comment in
      let oa = left_owned st ca cr o in
      let at_v : 0 < ca (ref z.value) = left_above _ _ (hit_self (ref z.value)) in
      let at_i : 0 < ca (ref z.index) = right_above _ _ (left_above _ _ (hit_self (ref z.index))) in
      let apart : hit (ref z.index) (ref z.value) ≡ 0 = (let e = oa.once (ref z.index) in let f = hit_same (ref z.index) in omega (arith, e, f)) in
      let apart' : hit (ref z.value) (ref z.index) ≡ 0 = (let e = oa.once (ref z.value) in let f = hit_same (ref z.value) in omega (arith, e, f)) in
      let g1 = give_is st ca z.value (item_value q) u x.value oa at_v (path_itself q) k.stands.2 in
      let st1 = give z.value (item_value q) x.value st in
      let g2 = give_is st1 ca z.index (item_index q) (count_value n) (count_value x.index) (owned_after st st1 ca ca g1.moves) at_i (path_itself q) (g1.others (ref z.index) apart ∙ k.stands.3) in
      let st2 = give z.index (item_index q) (count_value x.index) st1 in
      let m2 = then_move st st1 st2 ca ca ca g1.moves g2.moves in
      let more_same : (i : Id) → 0 < occurs i z.more → st2.look i ≡ st.look i =
      (λ i e. let f = oa.once i in g2.others i (omega (arith, f, e)) ∙ g1.others i (omega (arith, f, e))) in
      let item2 : ItemStands app τ τ st2.look q ms ns x z = (
        k.stands.0,
        k.stands.1,
        g2.others (ref z.value) apart' ∙ g1.row,
        g2.row,
        gives_stays app st.look st2.look z.more ms _ _ more_same k.stands.4,
      ) in
      let r2 = ready_goes app σ τ b st st2 ms v w ca ca r m2 (from_left app σ τ b ca cr from) in
      let o2 = owned_after st st2 ca ca m2 in
      let keeps : KeepsAll (Cold st2) (entry_pairs q y) (entry_pairs q x) =
      keeps_more (pair_keeps app σ τ m b ms p ns c (Cold st2) (item_value q) u x.value (λ e. g1.keeps (g2.moves.still (item_value q) e)))
      (keeps_more (pair_keeps app σ τ m b ms p ns c (Cold st2) (item_index q) (count_value n) (count_value x.index) (λ e. g2.keeps e)) keeps_none) in
      let b' = max b (top made) in
      let ri = item_ready app σ τ b st2 ms v w q ns y x z r2 o2 item2 k.low keeps in
      let same = beside st st2 ca ca cr o m2 in
      let or = next_owned st st2 ca ca cr o m2 in
      let ci : Id → ℕ = λ i. times_in i h.lives in
      let ck : Id → ℕ = λ i. times_comment i h.comment in
      let inside2 = stay_in app st.look st2.look σ τ m b' _ _ q 0 c h.lives (λ i e. same i (left_above _ _ e)) k.inside in
      let w' = with_locals (bind ns (entry_pairs q x)) w in
      let body = right b' (with_locals (bind ns (entry_pairs q y)) v) w' (with_names (item_names ns z) ms) q st2 (left_owned st2 ci ck or) k.from inside2 ri in
      let out = h.go (with_names (item_names ns z) ms) q st2 in
      let comment2 = comment_stays app st.look st2.look σ τ h.comment h.lives (λ i e. same i (right_above _ _ e)) k.comment in
      let arm = kept_arm app σ τ m b' w' (with_names (item_names ns z) ms) q c st2 h.comment h.lives out or comment2 body in
      let after : Id → ℕ = λ i. times_in i out.0 + times_comment i h.comment in (
        record {
          moves = both_move st st2 out.1 ca ca cr after o m2 arm.moves;
          stands = item_stays app st2.look out.1.look τ τ q ms ns x z (before_it st st2 out.1 ca ca cr after o m2 arm.moves) item2;
          low = k.low;
          from = λ i lt. let e = body.moves.fewer (ref i) (let f = ri.low in omega (arith, f, lt)) in let f = k.from i lt in omega (arith, e, f);
          comment = arm.comment;
          inside = arm.stands;
        },
        keep_less st.next st2.next (next_more app σ τ st st2 ca ca m2) h.lives out.0 body.keeps,
      )

  -- All items

  pub record ItemsRenewed (w : Scope) (xs : List Entry) (st : State) (count : Id → ℕ) (r : Items × State) : Type 0 where
    pub moves : Moves st r.1 count (λ q. times_items q r.0)
    pub stands : ItemsStand app τ τ r.1.look m b w ms p ns c xs r.0

  -- one item and then the others
  one_then : (w : Scope) (x : Entry) (xs : List Entry) (st : State) (a rest : Id → ℕ) (g : ItemGrown) (r : Items × State) → Owned st (λ q. a q + rest q)
      → ItemRenewed app σ τ m b ms p ns c w x st a g → ItemsRenewed w xs g.arm.state rest r
      → ItemsRenewed w (x ∷ xs) st (λ q. a q + rest q) (Live.item_live g.spot g.arm.comment g.arm.lives r.0, r.1)
  one_then w x xs st a rest g r o h k =
      let a' : Id → ℕ = λ q. occurs q (item_made g.spot) + (times_in q g.arm.lives + times_comment q g.arm.comment) in
      let same = before_it st g.arm.state r.1 a a' rest (λ q. times_items q r.0) o h.moves k.moves in
      record {
        moves = both_move st g.arm.state r.1 a a' rest (λ q. times_items q r.0) o h.moves k.moves;
        stands = (
          item_stays app g.arm.state.look r.1.look τ τ _ ms ns x g.spot (λ q e. same q (left_above _ _ e)) h.stands,
          h.low,
          h.from,
          comment_stays app g.arm.state.look r.1.look τ τ g.arm.comment g.arm.lives (λ q e. same q (right_above _ _ (right_above _ _ e))) h.comment,
          stay_in app g.arm.state.look r.1.look τ τ m _ _ _ _ 0 c g.arm.lives (λ q e. same q (right_above _ _ (left_above _ _ e))) h.inside,
          k.stands,
        );
      }

  pub items_count : (w : Scope) (xs : List Entry) (st : State) (count count' : Id → ℕ) (r : Items × State) → ((q : Id) → count' q ≡ count q) → ItemsRenewed w xs st count r → ItemsRenewed w xs st count' r
  items_count w xs st count count' r e h = record { moves = recount st r.1 count' count (λ q. times_items q r.0) (λ q. times_items q r.0) e (λ q. refl) h.moves; stands = h.stands }

  pub sync_is : (v w : Scope) (one : Path → Entry → State → ItemGrown)
      → ((x : Entry) (st : State) → Ready app σ τ b st ms v w → ItemRenewed app σ τ m b ms p ns c w x st (λ q. 0) (one (item x.key x.occurrence ∷ p) x st))
      → (xs : List Entry) (olds : List Handle) (st : State) → Owned st (λ q. times_handles q olds) → From b (λ q. times_handles q olds)
      → EachHandle app σ τ m b ms p ns c v st.look olds → AllRight app σ τ m b ms p ns c olds → Ready app σ τ b st ms v w
      → ItemsRenewed w xs st (λ q. times_handles q olds) (sync one ns ms p xs olds st)
  sync_is v w one fresh [] olds st o from hs rs r = record { moves = drop_moves st (λ q. times_handles q olds); stands = tt }
  sync_is v w one fresh (x ∷ xs) olds st o from hs rs r = by (taken x olds) (parted app σ τ m b ms p ns c x olds) (sync_is v w one fresh xs) where
    by : (k : Option (Handle × List Handle)) → Parted app σ τ m b ms p ns c x olds k
        → ((olds : List Handle) (st : State) → Owned st (λ q. times_handles q olds) → From b (λ q. times_handles q olds)
        → EachHandle app σ τ m b ms p ns c v st.look olds → AllRight app σ τ m b ms p ns c olds → Ready app σ τ b st ms v w
        → ItemsRenewed w xs st (λ q. times_handles q olds) (sync one ns ms p xs olds st))
        → let g = sync_one one ns ms (item x.key x.occurrence ∷ p) x olds k st in let z = sync one ns ms p xs g.1 g.0.arm.state in
        ItemsRenewed w (x ∷ xs) st (λ q. times_handles q olds) (Live.item_live g.0.spot g.0.arm.comment g.0.arm.lives z.0, z.1)
    by None k rec =
        let g = one (item x.key x.occurrence ∷ p) x st in
        let h = fresh x st r in
        let cr : Id → ℕ = λ q. times_handles q olds in
        let c0 : Id → ℕ = λ q. 0 in
        let cg : Id → ℕ = λ q. occurs q (item_made g.spot) + (times_in q g.arm.lives + times_comment q g.arm.comment) in
        let o0 = same_owned st cr (λ q. 0 + cr q) (λ q. omega arith) o in
        let same = beside st g.arm.state c0 cg cr o0 h.moves in
        let z = sync one ns ms p xs olds g.arm.state in
        items_count w (x ∷ xs) st (λ q. 0 + cr q) cr (Live.item_live g.spot g.arm.comment g.arm.lives z.0, z.1) (λ q. omega arith)
        (one_then w x xs st c0 cr g z o0 h
        (rec olds g.arm.state (next_owned st g.arm.state c0 cg cr o0 h.moves) from (handles_stay app σ τ m b ms p ns c v st.look g.arm.state.look olds same hs) rs
        (ready_goes app σ τ b st g.arm.state ms v w c0 cg r h.moves (λ q lt. refl))))
    by (Some k) e rec =
        let q = item x.key x.occurrence ∷ p in
        let g = renew_item ns ms q x k.0 st in
        let ca : Id → ℕ = λ i. times_handle i k.0 in
        let cr : Id → ℕ = λ i. times_handles i k.1 in
        let cg : Id → ℕ = λ i. occurs i (item_made g.spot) + (times_in i g.arm.lives + times_comment i g.arm.comment) in
        let both : Id → ℕ = λ i. ca i + cr i in
        let o1 = same_owned st (λ i. times_handles i olds) both e.0 o in
        let from1 : From b both = (λ i lt. let a = from i lt in let d = e.0 (ref i) in omega (arith, a, d)) in
        let hs1 = e.1 v st.look hs in
        let rs1 = e.2 rs in
        let at = with_entry app σ τ m b ms p ns c v st.look x k.0 e.3 hs1.0 in
        let h0 = item_renews v w x k.0 hs1.0.entry.value hs1.0.entry.index st (left_owned st ca cr o1) (from_left app σ τ b ca cr from1) rs1.0 r at in
        let h = h0.0 in
        let same = beside st g.arm.state ca cg cr o1 h.moves in
        let z = sync one ns ms p xs k.1 g.arm.state in
        items_count w (x ∷ xs) st both (λ i. times_handles i olds) (Live.item_live g.spot g.arm.comment g.arm.lives z.0, z.1) e.0
        (one_then w x xs st ca cr g z o1 h
        (rec k.1 g.arm.state (next_owned st g.arm.state ca cg cr o1 h.moves) (from_right app σ τ b ca cr from1) (handles_stay app σ τ m b ms p ns c v st.look g.arm.state.look k.1 same hs1.1) rs1.1
        (ready_goes app σ τ b st g.arm.state ms v w ca cg r h.moves (from_left app σ τ b ca cr from1))))

  -- What is kept

  module _ (is0 : Items) where
    abbrev pub KeptHandle : Handle → Type 0
    KeptHandle h = (next : Kind → ℕ) (ls : Lives) → KeepIn next h.lives ls → KeptBy next is0 h.spot h.comment ls

    abbrev pub AllKept : List Handle → Type 0
    AllKept [] = Unit {0}
    AllKept (h ∷ hs) = KeptHandle h × AllKept hs

    -- none of the old items has its key
    abbrev pub Absent : Entry → Type 0
    Absent x = (next : Kind → ℕ) (z : ItemSpot) (k : Option ℕ) (ls : Lives) → z.key ≡ x.key → z.occurrence ≡ x.occurrence → New next (item_count z k ls) → KeptBy next is0 z k ls

    abbrev pub EachAbsent : List Entry → List Handle → Type 0
    EachAbsent [] olds = Unit {0}
    EachAbsent (x ∷ xs) olds = (taken x olds ≡ None → Absent x) × EachAbsent xs olds

    -- with others that are no longer there
    absent_less : (x : Entry) (h : Handle) (olds rest : List Handle) → is_of x h ≡ true → (xs : List Entry) → Later x.key (suc x.occurrence) xs
        → ((y : Entry) → is_of y h ≡ false → taken y rest ≡ None → taken y olds ≡ None) → EachAbsent xs olds → EachAbsent xs rest
    absent_less x h olds rest e [] l f a = tt
    absent_less x h olds rest e (y ∷ ys) l f a = ((λ g. a.0 (f y (other (is_of y h) refl) g)), absent_less x h olds rest e ys l.1 f a.1) where
      key_of_h : (z : Entry) → is_of z h ≡ true → z.key ≡ h.spot.key
      key_of_h z g = same_means ⊥ no_owners no_owners-Decides z.key h.spot.key (both_left _ _ g)

      place_of_h : (z : Entry) → is_of z h ≡ true → z.occurrence ≡ h.spot.occurrence
      place_of_h z g = (Decides-eqb z.occurrence h.spot.occurrence).0 (both_right (same no_owners z.key h.spot.key) _ g)

      other : (d : Bool) → is_of y h ≡ d → is_of y h ≡ false
      other false g = g
      other true g =
          let n = l.0 (key_of_h y g ∙ sym (key_of_h x e)) in
          let i = place_of_h y g in
          let j = place_of_h x e in
          absurd (omega (arith, n, i, j))

    parted_kept : (x : Entry) (olds : List Handle) (k : Handle × List Handle) → taken x olds ≡ Some k → AllKept olds → KeptHandle k.0 × AllKept k.1
    parted_kept x [] k e a = absurd cc
    parted_kept x (h ∷ hs) k e a = by (is_of x h) (taken x hs) (λ o f. parted_kept x hs o f a.1) e where
      by : (d : Bool) (o : Option (Handle × List Handle)) → ((k : Handle × List Handle) → o ≡ Some k → KeptHandle k.0 × AllKept k.1) → (if d then Some (h, hs) else with_front h o) ≡ Some k → KeptHandle k.0 × AllKept k.1
      by true o rec f = subst (λ (z : Handle × List Handle). KeptHandle z.0 × AllKept z.1) (some_same (h, hs) k f) (a.0, a.1)
      by false None rec f = absurd cc
      by false (Some y) rec f = let g = rec y refl in subst (λ (z : Handle × List Handle). KeptHandle z.0 × AllKept z.1) (some_same (y.0, h ∷ y.1) k f) (g.0, (a.0, g.1))

    pub sync_keeps : (v w : Scope) (one : Path → Entry → State → ItemGrown)
        → ((x : Entry) (st : State) → Ready app σ τ b st ms v w → ItemRenewed app σ τ m b ms p ns c w x st (λ q. 0) (one (item x.key x.occurrence ∷ p) x st))
        → (xs : List Entry) (olds : List Handle) (st : State) → Owned st (λ q. times_handles q olds) → From b (λ q. times_handles q olds)
        → EachHandle app σ τ m b ms p ns c v st.look olds → AllRight app σ τ m b ms p ns c olds → Ready app σ τ b st ms v w
        → Distinct xs → AllKept olds → EachAbsent xs olds → EachItem (KeptBy st.next is0) (sync one ns ms p xs olds st).0
    sync_keeps v w one fresh [] olds st o from hs rs r d ak ab = tt
    sync_keeps v w one fresh (x ∷ xs) olds st o from hs rs r d ak ab = by (taken x olds) refl (parted app σ τ m b ms p ns c x olds) (sync_keeps v w one fresh xs) where
      by : (k : Option (Handle × List Handle)) → taken x olds ≡ k → Parted app σ τ m b ms p ns c x olds k
          → ((olds : List Handle) (st : State) → Owned st (λ q. times_handles q olds) → From b (λ q. times_handles q olds)
          → EachHandle app σ τ m b ms p ns c v st.look olds → AllRight app σ τ m b ms p ns c olds → Ready app σ τ b st ms v w
          → Distinct xs → AllKept olds → EachAbsent xs olds → EachItem (KeptBy st.next is0) (sync one ns ms p xs olds st).0)
          → let g = sync_one one ns ms (item x.key x.occurrence ∷ p) x olds k st in let z = sync one ns ms p xs g.1 g.0.arm.state in
          KeptBy st.next is0 g.0.spot g.0.arm.comment g.0.arm.lives × EachItem (KeptBy st.next is0) z.0
      by None t k rec =
          let g = one (item x.key x.occurrence ∷ p) x st in
          let h = fresh x st r in
          let cr : Id → ℕ = λ q. times_handles q olds in
          let c0 : Id → ℕ = λ q. 0 in
          let cg : Id → ℕ = λ q. item_count g.spot g.arm.comment g.arm.lives q in
          let o0 = same_owned st cr (λ q. 0 + cr q) (λ q. omega arith) o in
          let same = beside st g.arm.state c0 cg cr o0 h.moves in
          let z = rec olds g.arm.state (next_owned st g.arm.state c0 cg cr o0 h.moves) from (handles_stay app σ τ m b ms p ns c v st.look g.arm.state.look olds same hs) rs
          (ready_goes app σ τ b st g.arm.state ms v w c0 cg r h.moves (λ q lt. refl)) d.1 ak ab.1 in (
            ab.0 t st.next g.spot g.arm.comment g.arm.lives h.stands.0 h.stands.1 (new_is_new app σ τ st g.arm.state cg h.moves),
            each_item st.next g.arm.state.next (next_more app σ τ st g.arm.state c0 cg h.moves) (KeptBy g.arm.state.next is0) (KeptBy st.next is0)
                (λ y j ls f. kept_less st.next g.arm.state.next (next_more app σ τ st g.arm.state c0 cg h.moves) is0 y j ls f) _ z,
          )
      by (Some k) t e rec =
          let q = item x.key x.occurrence ∷ p in
          let g = renew_item ns ms q x k.0 st in
          let ca : Id → ℕ = λ i. times_handle i k.0 in
          let cr : Id → ℕ = λ i. times_handles i k.1 in
          let cg : Id → ℕ = λ i. item_count g.spot g.arm.comment g.arm.lives i in
          let both : Id → ℕ = λ i. ca i + cr i in
          let o1 = same_owned st (λ i. times_handles i olds) both e.0 o in
          let from1 : From b both = (λ i lt. let a = from i lt in let d = e.0 (ref i) in omega (arith, a, d)) in
          let hs1 = e.1 v st.look hs in
          let rs1 = e.2 rs in
          let at = with_entry app σ τ m b ms p ns c v st.look x k.0 e.3 hs1.0 in
          let h0 = item_renews v w x k.0 hs1.0.entry.value hs1.0.entry.index st (left_owned st ca cr o1) (from_left app σ τ b ca cr from1) rs1.0 r at in
          let h = h0.0 in
          let ks = parted_kept x olds k t ak in
          let same = beside st g.arm.state ca cg cr o1 h.moves in
          let z = rec k.1 g.arm.state (next_owned st g.arm.state ca cg cr o1 h.moves) (from_right app σ τ b ca cr from1) (handles_stay app σ τ m b ms p ns c v st.look g.arm.state.look k.1 same hs1.1) rs1.1
          (ready_goes app σ τ b st g.arm.state ms v w ca cg r h.moves (from_left app σ τ b ca cr from1)) d.1 ks.1 (absent_less x k.0 olds k.1 e.3 xs d.0 e.4 ab.1) in (
            ks.0 st.next g.arm.lives h0.1,
            each_item st.next g.arm.state.next (next_more app σ τ st g.arm.state ca cg h.moves) (KeptBy g.arm.state.next is0) (KeptBy st.next is0)
                (λ y j ls f. kept_less st.next g.arm.state.next (next_more app σ τ st g.arm.state ca cg h.moves) is0 y j ls f) _ z,
          )
