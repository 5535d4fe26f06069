use Rattle.std.proofs.Common.{◌≡◌, ℕ, ◌<◌, ◌^◌, map, decimal, arith, rules}
use Rattle.csv.specs.Records.{fields_of}
use Rattle.trlab_diagram.{specs.Tables.{flow_of, window_columns}, proofs.Rows.{AreSmall, window_row}}
use Rattle.trlab_diagram.proofs.series.put_window.Goals as goal

-- a number of 64 bits fits in 128 bits
fits : (n : ℕ) → n < 2 ^ 64 → n < 2 ^ 128
fits n small = omega (arith, small)

pub returns : goal.returns
returns c =
    let w = c.args.window.now in
    let fields : fields_of c.push_counts-2.new.row ≡ map decimal (window_columns w) = search rules in
    let flow : flow_of w.point < 2 ^ 128 = omega (arith, c.flow.ensures, c.flow.type_inv) in
    let road = c.push_counts.ensures.small in
    let lanes = c.push_counts-2.ensures.small in
    let small : AreSmall (window_columns w) = (
      fits _ (road 0 0 (omega arith)),
      (
        fits _ (road 1 0 (omega arith)),
        (
          fits _ (road 2 0 (omega arith)),
          (
            fits _ (road 3 0 (omega arith)),
            (
              fits _ (road 4 0 (omega arith)),
              (
                fits _ (road 5 0 (omega arith)),
                (
                  fits _ (road 6 0 (omega arith)),
                  (
                    flow,
                    (
                      fits _ (lanes 0 0 (omega arith)),
                      (
                        fits _ (lanes 1 0 (omega arith)),
                        (
                          fits _ (lanes 2 0 (omega arith)),
                          (fits _ (lanes 3 0 (omega arith)), (fits _ (lanes 4 0 (omega arith)), (fits _ (lanes 5 0 (omega arith)), tt))),
                        ),
                      ),
                    ),
                  ),
                ),
              ),
            ),
          ),
        ),
      ),
    ) in
    rw fields (window_row w small)
