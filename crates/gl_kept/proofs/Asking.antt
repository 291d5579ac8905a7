-- Questions of a tree, beside the members of the regions of its rendering.
use Rattle.std.proofs.Common.{◌≡◌, ◌+◌, ◌≤◌, ℕ, List, [], ◌∷◌, ◌++◌, Bool, true, false, true≢false, Option, Some, None, refl, sym, ap, ap₂, ◌∙◌, arith}
use Rattle.std.specs.Prelude.{filter_map, if◌then◌else◌, ◌&&◌, ◌||◌}
use Rattle.std.specs.List.{list_any, cons_option}
use Rattle.std.proofs.lemmas.List.{append-nil}
use Rattle.std.proofs.lemmas.List.Folds.{list_any-append}
use Rattle.gl_base.specs.Texts.{Text}
use Rattle.gl_meaning.specs.Path.{Path, empty}
use Rattle.gl_meaning.specs.Scope.{Source, Pair, sources_of}
use Rattle.gl_meaning.specs.Parts.{Attrs, Modifier}
use Rattle.gl_meaning.specs.Render.{Piece, element_node, text_node, comment_node, position, too_deep, Forest, no_pieces, piece, single, join, has_node, or_comment}
use Rattle.gl_meaning.specs.Changes.{pieces, pieces_in, region_path, position_in, Position}
use Rattle.gl_meaning.specs.Work.{members, members_in, region_forest}
use Rattle.gl_meaning.proofs.Pieces.{filter_map_append, pieces_join}
use Rattle.gl_plain.specs.Ids.{Id, ref}
use Rattle.gl_plain.specs.State.{any_of, Thing}
use Rattle.gl_plain.specs.Renew.{last_of}
use Rattle.gl_kept.specs.Asked.{some_stale, entered}

module _ (look : Id → Option Thing) (touched : Source → Bool) (stays : Path → Bool) where
  -- some position of the rendering read what is touched
  abbrev pub Reads : List Piece → Bool
  Reads qs = list_any (λ (q : Position). any_of (sources_of q.pairs) touched) (filter_map position_in qs)

  abbrev pub path_stays : Option Path → Bool
  path_stays None = false
  path_stays (Some q) = stays q

  -- what a region adds where it is open
  abbrev pub weight : Piece → ℕ
  weight x = if path_stays (region_path x) && Reads (pieces (region_forest x)) then members (region_forest x) else 0

  abbrev pub opened : List Piece → ℕ
  opened [] = 0
  opened (x ∷ xs) = weight x + opened xs

  -- a part with these regions, these positions and so many questions, and its rendering
  pub record Asks (regs : List Path) (refs : List ℕ) (n : ℕ) (f : Forest) : Type 0 where
    pub regions : regs ≡ filter_map region_path (pieces f)
    pub stale : some_stale look touched stays refs ≡ true → Reads (pieces f) ≡ true
    pub bound : n ≤ members f + opened (pieces f)

  opened_append : (xs ys : List Piece) → opened (xs ++ ys) ≡ opened xs + opened ys
  opened_append [] ys = omega arith
  opened_append (x ∷ xs) ys = let h = opened_append xs ys in omega (arith, h)

  members_join : (f g : Forest) → members (join f g) ≡ members f + members g
  members_join no_pieces g = omega arith
  members_join (piece x f) g = let h = members_join f g in omega (arith, h)

  or_case : (a b c d : Bool) → (a ≡ true → c ≡ true) → (b ≡ true → d ≡ true) → (a || b) ≡ true → (c || d) ≡ true
  or_case true b c d f g e = ap (λ x. x || d) (f refl)
  or_case false b true d f g e = refl
  or_case false b false d f g e = g e

  reads_append : (xs ys : List Piece) → Reads (xs ++ ys) ≡ (Reads xs || Reads ys)
  reads_append xs ys =
      ap (list_any (λ (q : Position). any_of (sources_of q.pairs) touched)) (filter_map_append position_in xs ys)
      ∙ list_any-append (λ (q : Position). any_of (sources_of q.pairs) touched) (filter_map position_in xs) (filter_map position_in ys)

  pub no_asks : Asks [] [] 0 no_pieces
  no_asks = record { regions = refl; stale = λ e. absurd (true≢false (sym e)); bound = omega arith }

  pub join_asks : (r s : List Path) (us bs : List ℕ) (m n : ℕ) (f g : Forest) → Asks r us m f → Asks s bs n g → Asks (r ++ s) (us ++ bs) (m + n) (join f g)
  join_asks r s us bs m n f g h k = record {
    regions = ap₂ (λ x y. x ++ y) h.regions k.regions ∙ (sym (filter_map_append region_path (pieces f) (pieces g)) ∙ ap (filter_map region_path) (sym (pieces_join f g)));
    stale = λ e.
        ap Reads (pieces_join f g)
        ∙ (reads_append (pieces f) (pieces g)
        ∙ or_case (some_stale look touched stays us) (some_stale look touched stays bs) (Reads (pieces f)) (Reads (pieces g)) h.stale k.stale (sym (list_any-append (λ r. last_of (look (ref r)) touched) us bs) ∙ e));
    bound = let a = h.bound in let b = k.bound in let c = members_join f g in let d = ap opened (pieces_join f g) ∙ opened_append (pieces f) (pieces g) in omega (arith, a, b, c, d);
  }

  -- the same part, with its positions in another order
  pub as_asks : (r s : List Path) (us bs : List ℕ) (m n : ℕ) (f : Forest) → s ≡ r → (some_stale look touched stays bs ≡ true → some_stale look touched stays us ≡ true) → n ≤ m → Asks r us m f → Asks s bs n f
  as_asks r s us bs m n f e g le h = record { regions = e ∙ h.regions; stale = λ k. h.stale (g k); bound = let a = h.bound in omega (arith, a, le) }

  -- a text or a comment
  pub text_asks : (p : Path) (z : Text) → Asks [] [] 0 (single (text_node p z))
  text_asks p z = record { regions = refl; stale = λ e. absurd (true≢false (sym e)); bound = omega arith }

  pub comment_asks : (p : Path) (z : Text) → Asks [] [] 0 (single (comment_node p z))
  comment_asks p z = record { regions = refl; stale = λ e. absurd (true≢false (sym e)); bound = omega arith }

  pub deep_asks : (p : Path) → Asks [] [] 0 (single (too_deep p))
  deep_asks p = record { regions = refl; stale = λ e. absurd (true≢false (sym e)); bound = omega arith }

  pub position_asks : (p : Path) (k : ℕ) (vs : List Pair) (r : List Path) (us : List ℕ) (n : ℕ) (f : Forest) → last_of (look (ref k)) ≡ any_of (sources_of vs) → Asks r us n f → Asks r (k ∷ us) (1 + n) (piece (position p vs) f)
  position_asks p k vs r us n f e h = record {
    regions = h.regions;
    stale = or_case (last_of (look (ref k)) touched) (some_stale look touched stays us) (any_of (sources_of vs) touched) (Reads (pieces f)) (λ g. sym (ap (λ t. t touched) e) ∙ g) h.stale;
    bound = let a = h.bound in omega (arith, a);
  }

  pub element_asks : (p : Path) (tag : Text) (a : Attrs) (ms : List Modifier) (r : List Path) (us : List ℕ) (n : ℕ) (f : Forest) → Asks r us n f → Asks r us n (single (element_node p tag a ms f))
  element_asks p tag a ms r us n f h =
      let e = append-nil (pieces f) in
      record {
        regions = h.regions ∙ ap (filter_map region_path) (sym e);
        stale = λ g. ap Reads e ∙ h.stale g;
        bound = let b = h.bound in let d = ap opened e in omega (arith, b, d);
      }

  -- a region
  pub region_asks : (x : Piece) (q : Path) (f : Forest) → pieces_in x ≡ x ∷ pieces f → region_path x ≡ Some q → region_forest x ≡ f → members_in x ≡ 1 → position_in x ≡ None
      → (r : List Path) (us : List ℕ) (n : ℕ) → Asks r us n f → Asks (q ∷ r) us (1 + entered look touched stays q us n) (single x)
  region_asks x q f ep er ef em eo r us n h =
      let e : pieces (single x) ≡ x ∷ pieces f = append-nil (pieces_in x) ∙ ep in
      record {
        regions = ap (λ y. q ∷ y) h.regions ∙ (ap (λ o. cons_option o (filter_map region_path (pieces f))) (sym er) ∙ ap (filter_map region_path) (sym e));
        stale = λ g. ap Reads e ∙ (ap (λ o. list_any (λ (y : Position). any_of (sources_of y.pairs) touched) (cons_option o (filter_map position_in (pieces f)))) eo ∙ h.stale g);
        bound =
            let w : weight x ≡ (if stays q && Reads (pieces f) then members f else 0) = ap₂ (λ o g. if path_stays o && Reads (pieces g) then members g else 0) er ef in
            let b = h.bound in
            let d = ap opened e in
            let i = by (stays q) (some_stale look touched stays us) (Reads (pieces f)) h.stale b in
            omega (arith, w, d, em, i);
      }
    where
      by : (s t u : Bool) → (t ≡ true → u ≡ true) → n ≤ members f + opened (pieces f) → (if s && t then n else 0) ≤ (if s && u then members f else 0) + opened (pieces f)
      by true true true g b = b
      by true true false g b = absurd (true≢false (sym (g refl)))
      by true false u g b = omega arith
      by false t u g b = omega arith

  pub commented_asks : (p : Path) (r : List Path) (us : List ℕ) (n : ℕ) (f : Forest) → Asks r us n f → Asks r us n (or_comment p f)
  commented_asks p r us n f h = by (has_node f) where
    by : (b : Bool) → Asks r us n (join f (if b then no_pieces else single (comment_node (empty ∷ p) [])))
    by true = as_asks (r ++ []) r (us ++ []) us (n + 0) n (join f no_pieces) (sym (append-nil r)) (λ e. ap (some_stale look touched stays) (append-nil us) ∙ e) (omega arith) (join_asks r [] us [] n 0 f no_pieces h no_asks)
    by false =
        as_asks (r ++ []) r (us ++ []) us (n + 0) n (join f (single (comment_node (empty ∷ p) []))) (sym (append-nil r)) (λ e. ap (some_stale look touched stays) (append-nil us) ∙ e) (omega arith)
        (join_asks r [] us [] n 0 f (single (comment_node (empty ∷ p) [])) h (comment_asks (empty ∷ p) []))
