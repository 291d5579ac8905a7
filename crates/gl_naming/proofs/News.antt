-- What an update leaves of a tree's names: those of what persists, and new ones, at places that were nowhere.
use Rattle.std.proofs.Common.{◌≤◌, ℕ, List, [], ◌++◌, sym, subst, inl, inr, ◌⊎◌}
use Rattle.std.proofs.lemmas.List.{map-append}
use Rattle.gl_meaning.specs.App.{App}
use Rattle.gl_meaning.specs.Known.{Among}
use Rattle.gl_meaning.specs.Laws.{NoRepeat}
use Rattle.gl_meaning.specs.Path.{Path}
use Rattle.gl_meaning.proofs.Pieces.{among_either, among_left, among_right}
use Rattle.gl_naming.proofs.Swaps.{value_either, numbers, values}
use Rattle.gl_naming.proofs.Rising.{Rises, rises_sooner, rises_later, rises_join}
use Rattle.gl_naming.proofs.Sits.{Placed, placed_more, placed_join, placed_one, differ_join}

module _ (app : App) {A : Type 0} (place : A → Path) where
  abbrev PlacedAt : (Path → Type 0) → List (ℕ × A) → Type 0
  PlacedAt P xs = Placed app place P xs

  abbrev Apart : (Path → Type 0) → (Path → Type 0) → Type 0
  Apart P Q = (j : Path) → P j → Q j → ⊥

  -- The new names have numbers from n on, which rise, below m, and places with the property P.
  pub record Turned (P : Path → Type 0) (olds now : List (ℕ × A)) (n m : ℕ) : Type 0 where
    pub news : List (ℕ × A)
    pub rises : Rises n (numbers news) m
    pub known : (x : ℕ × A) → Among x now → Among x olds ⊎ Among x news
    pub fresh : (v : A) → Among v (values news) → Among v (values olds) → ⊥
    pub differ : NoRepeat (values news)
    pub placed : PlacedAt P news

  -- nothing is new
  pub turned_same : (P : Path → Type 0) (xs : List (ℕ × A)) (n m : ℕ) → n ≤ m → Turned P xs xs n m
  turned_same P xs n m le = record { news = []; rises = le; known = λ x a. inl a; fresh = λ v a b. a; differ = tt; placed = tt }

  -- all goes
  pub turned_gone : (P : Path → Type 0) (xs : List (ℕ × A)) (n m : ℕ) → n ≤ m → Turned P xs [] n m
  turned_gone P xs n m le = record { news = []; rises = le; known = λ x a. absurd a; fresh = λ v a b. a; differ = tt; placed = tt }

  -- all is new
  pub turned_new : (P Q : Path → Type 0) → Apart P Q → (olds now : List (ℕ × A)) (n m : ℕ) → PlacedAt Q olds → PlacedAt P now → NoRepeat (values now) → Rises n (numbers now) m → Turned P olds now n m
  turned_new P Q apart olds now n m o w d r = record {
    news = now;
    rises = r;
    known = λ x a. inr a;
    fresh = λ v a b. apart (place v) (placed_one app place P v now w a) (placed_one app place Q v olds o b);
    differ = d;
    placed = w;
  }

  pub turned_sooner : (P : Path → Type 0) (olds now : List (ℕ × A)) (n k m : ℕ) → n ≤ k → Turned P olds now k m → Turned P olds now n m
  turned_sooner P olds now n k m le t = record { news = t.news; rises = rises_sooner n k m (numbers t.news) le t.rises; known = t.known; fresh = t.fresh; differ = t.differ; placed = t.placed }

  pub turned_later : (P : Path → Type 0) (olds now : List (ℕ × A)) (n m k : ℕ) → m ≤ k → Turned P olds now n m → Turned P olds now n k
  turned_later P olds now n m k le t = record { news = t.news; rises = rises_later n m k (numbers t.news) le t.rises; known = t.known; fresh = t.fresh; differ = t.differ; placed = t.placed }

  pub turned_wider : (P Q : Path → Type 0) → ((j : Path) → P j → Q j) → (olds now : List (ℕ × A)) (n m : ℕ) → Turned P olds now n m → Turned Q olds now n m
  turned_wider P Q f olds now n m t = record { news = t.news; rises = t.rises; known = t.known; fresh = t.fresh; differ = t.differ; placed = placed_more app place P Q f t.news t.placed }

  -- Two parts: where the new things of the one can't stand, nor could they, where those of the other do.
  module _ (P P' Q Q' R : Path → Type 0) (news_apart : Apart P Q) (first_apart : Apart P Q') (last_apart : Apart Q P') (left : (j : Path) → P j → R j) (right : (j : Path) → Q j → R j) where
    pub turned_join : (olds oa ob : List (ℕ × A)) → ((x : ℕ × A) → Among x oa → Among x olds) → ((x : ℕ × A) → Among x ob → Among x olds)
        → ((v : A) → Among v (values olds) → Among v (values oa) ⊎ Among v (values ob)) → PlacedAt P' oa → PlacedAt Q' ob
        → (na nb : List (ℕ × A)) (n k m : ℕ) → Turned P oa na n k → Turned Q ob nb k m → Turned R olds (na ++ nb) n m
    turned_join olds oa ob ina inb out pa pb na nb n k m a b = record {
      news = a.news ++ b.news;
      rises = subst (λ ns. Rises n ns m) (sym (map-append (λ x. x.0) a.news b.news)) (rises_join n k m (numbers a.news) (numbers b.news) a.rises b.rises);
      known = λ x w. elim (among_either x na nb w) [
        | inl u ↦ elim (a.known x u) [ inl o ↦ inl (ina x o) | inr z ↦ inr (among_left x a.news b.news z) ]
        | inr u ↦ elim (b.known x u) [ inl o ↦ inl (inb x o) | inr z ↦ inr (among_right x a.news b.news z) ]
      ];
      fresh = λ v w o. elim (value_either v a.news b.news w) [
        | inl u ↦ elim (out v o) [ inl z ↦ a.fresh v u z | inr z ↦ first_apart (place v) (placed_one app place P v a.news a.placed u) (placed_one app place Q' v ob pb z) ]
        | inr u ↦ elim (out v o) [ inl z ↦ last_apart (place v) (placed_one app place Q v b.news b.placed u) (placed_one app place P' v oa pa z) | inr z ↦ b.fresh v u z ]
      ];
      differ = differ_join app place P Q news_apart a.news b.news a.differ b.differ a.placed b.placed;
      placed = placed_join app place R a.news b.news (placed_more app place P R left a.news a.placed) (placed_more app place Q R right b.news b.placed);
    }

    -- of parts beside each other
    pub turned_both : (oa ob : List (ℕ × A)) → PlacedAt P' oa → PlacedAt Q' ob → (na nb : List (ℕ × A)) (n k m : ℕ) → Turned P oa na n k → Turned Q ob nb k m → Turned R (oa ++ ob) (na ++ nb) n m
    turned_both oa ob pa pb na nb n k m a b =
        turned_join (oa ++ ob) oa ob (λ x w. among_left x oa ob w) (λ x w. among_right x oa ob w) (λ v w. value_either v oa ob w) pa pb na nb n k m a b
