use Rattle.std.proofs.Common.{◌≡◌, ◌≤◌, ℕ, false, rules, of_calls, arith, nat_lt, ltb-true}
use Rattle.std.proofs.lemmas.{Bool.Decides.nat_tests, List.Sorted.IsPartitionedBy-ltb}
use Rattle.std.proofs.lemmas.List.Sorted.{IsPartitionPoint-from_clause, IsNonDecreasingBy-from_default}
use Rattle.trlab_road.{specs.Stored.{LaneCar, no_car}, proofs.Lists.rises_weakly}
use Rattle.trlab_road.proofs.gaps.first_from.Goals as goal

not_less : (a b : ℕ) → nat_lt a b ≡ false → b ≤ a
not_less a b h = grind (arith, nat_tests, h)

pub returns : goal.returns
returns c =
    let cars = c.args.cars.now in
    let place : LaneCar → ℕ = λ car. car.place in
    let sorted = IsNonDecreasingBy-from_default place cars no_car (λ i j low h. rises_weakly c.requires.sorted.0 cars i j c.requires.sorted.1 low h) in
    let parted = IsPartitionPoint-from_clause (λ (car : LaneCar). nat_lt car.place c.args.place) cars c.partition_point.result c.partition_point.ensures.partitioned
    (IsPartitionedBy-ltb place cars c.args.place sorted) (λ a r f k. search (rules, of_calls)) in
    record {
      within = c.partition_point.ensures.bound;
      before = λ k low h. ltb-true _ _ (parted.0 k no_car (omega arith) low);
      from = λ k low h. not_less _ _ (parted.1 k no_car low h);
    }
