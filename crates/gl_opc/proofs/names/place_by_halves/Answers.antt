use Rattle.std.proofs.Common.{◌≡◌, ◌<◌, length, true, false, sym, ap, ◌∙◌, arith, rules}
use Rattle.std.specs.Str.{bytes_eq}
use Rattle.std.proofs.lemmas.List.Sorted.{IsPartitionPoint-from_clause}
use Rattle.gl_base.specs.Texts.{text_less}
use Rattle.gl_opc.proofs.NamePlaces.{they_rise, partitioned, found_by_halves, missed_by_halves, beyond_all}
use Rattle.gl_opc.proofs.names.place_by_halves.Goals as goal
use Rattle.gl_opc.proofs.names.place_by_halves.Goals.{else-place-items-via-then-place-items+else-same, else-place-items-via-else-place-items}

pub returns-then-same : goal.returns-then-same
returns-then-same g c =
    let f = g.T.Named.called in
    let n = c.args.name.now in
    let xs = c.args.items.now in
    let rise = they_rise _ c.requires in
    let point = IsPartitionPoint-from_clause (λ x. text_less (f x) n) xs c.partition_point-place.result c.partition_point-place.ensures.partitioned (partitioned f n xs rise) (λ a r q k. search rules) in
    let below : c.partition_point-place.result < length xs = grind (arith, c.if-place-items.true) in
    let same : bytes_eq n (f c.index-items-place.result) ≡ true = ap (λ t. bytes_eq n t) (sym c.name.ensures) ∙ (sym c.same.ensures ∙ c.if-same.true) in
    found_by_halves f n xs rise c.partition_point-place.result point c.index-items-place.result below (sym c.index-items-place.is) same

pub returns-else-place-items : goal.returns-else-place-items
returns-else-place-items g c =
    let f = g.T.Named.called in
    let n = c.args.name.now in
    let xs = c.args.items.now in
    let i = c.partition_point-place.result in
    let rise = they_rise _ c.requires in
    let point = IsPartitionPoint-from_clause (λ x. text_less (f x) n) xs i c.partition_point-place.ensures.partitioned (partitioned f n xs rise) (λ a r q k. search rules) in
    elim c.else-place-items.branch [
      | else-place-items-via-then-place-items+else-same w ↦
          let x = w.index-items-place.result in
          let below : i < length xs = grind (arith, w.if-place-items.true) in
          let differs : bytes_eq n (f x) ≡ false = ap (λ t. bytes_eq n t) (sym w.name.ensures) ∙ (sym w.same.ensures ∙ w.if-same.false) in
          missed_by_halves f n xs rise i point x below (ap (λ y. bytes_eq n (f y)) (sym w.index-items-place.is) ∙ differs)
      | else-place-items-via-else-place-items w ↦ let all : i ≡ length xs = grind (arith, w.if-place-items.false, c.partition_point-place.ensures.bound) in beyond_all f n xs rise i point all
    ]
