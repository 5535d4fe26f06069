use Rattle.std.proofs.Common.{◌≡◌, ◌≢◌, ◌∙◌, ℕ, ◌*◌, take, drop, sym, ap, rules, arith}
use Rattle.std.proofs.lemmas.Result.{err_from_is_err_and}
use Rattle.trlab_code.specs.{Program.{Program, version_of}, Faults.{IsFirstCodeFault, stated_version}}
use Rattle.trlab_code.proofs.Versions.{needless, needs_version}
use Rattle.trlab_code.proofs.Whole.{spelling_of_parts, found_fault, told_fault, found_program, told_program}
use Rattle.trlab_code.proofs.encoding.decode.Goals.{After-drop-code, After-drop-code-then-header-bytes}
use Rattle.trlab_code.specs.declared.fault.CodeFault.TheVariants as fault
use Rattle.trlab_code.proofs.encoding.decode.Goals as goal

pub returns-in_err-header-clause-found : goal.returns-in_err-header-clause-found
returns-in_err-header-clause-found c = let p = err_from_is_err_and c.from_residual.result c.from_residual.ensures.1 in rw (p.1, p.2) (found_fault _ _ c.in_err-header.ensures.fault)

pub returns-in_err-header-clause-reported : goal.returns-in_err-header-clause-reported
returns-in_err-header-clause-reported c = let p = err_from_is_err_and c.from_residual.result c.from_residual.ensures.1 in rw (p.1, p.2) (told_fault _ _ c.in_err-header.ensures.fault)

pub returns-in_err-instrs-clause-found : goal.returns-in_err-instrs-clause-found
returns-in_err-instrs-clause-found c = let p = err_from_is_err_and c.from_residual-in_err-instrs.result c.from_residual-in_err-instrs.ensures.1 in rw (p.1, p.2) (found_fault _ _ c.in_err-instrs.ensures.fault)

pub returns-in_err-instrs-clause-reported : goal.returns-in_err-instrs-clause-reported
returns-in_err-instrs-clause-reported c = let p = err_from_is_err_and c.from_residual-in_err-instrs.result c.from_residual-in_err-instrs.ensures.1 in rw (p.1, p.2) (told_fault _ _ c.in_err-instrs.ensures.fault)

needless_version : (c : After-drop-code) → IsFirstCodeFault c.args.bytes.now fault.NeedlessVersion
needless_version c =
    let read = c.in_ok-instrs.ensures in
    let program : Program = record { kind = c.in_ok-header.header.kind; instrs = c.in_ok-instrs.instrs.items } in
    let its : c.version.result ≡ version_of program = c.version.ensures ∙ ap version_of c.from_valid-code.ensures in
    let other : version_of program ≢ stated_version c.args.bytes.now = λ e. c.if-version-header.true (its ∙ e ∙ c.in_ok-header.ensures.version) in
    (read.rows, needless c.args.bytes.now program read.length read.spelt read.rows other)

pub returns-then-version-header-clause-exact : goal.returns-then-version-header-clause-exact
returns-then-version-header-clause-exact c = needless_version c

pub returns-then-version-header-clause-found : goal.returns-then-version-header-clause-found
returns-then-version-header-clause-found c = found_fault _ _ (needless_version c)

pub returns-then-version-header-clause-reported : goal.returns-then-version-header-clause-reported
returns-then-version-header-clause-reported c = told_fault _ _ (needless_version c)

trailing : (c : After-drop-code-then-header-bytes) → IsFirstCodeFault c.args.bytes.now fault.Trailing
trailing c =
    let read = c.in_ok-instrs.ensures in
    let program : Program = record { kind = c.in_ok-header.header.kind; instrs = c.in_ok-instrs.instrs.items } in
    let its : c.version.result ≡ version_of program = c.version.ensures ∙ ap version_of c.from_valid-code.ensures in
    let same : version_of program ≡ stated_version c.args.bytes.now = sym its ∙ c.if-version-header.false ∙ sym c.in_ok-header.ensures.version in
    (read.rows, (needs_version c.args.bytes.now program read.length read.spelt same, omega (arith, c.in_ok-header.ensures.count)))

pub returns-then-header-bytes-clause-exact : goal.returns-then-header-bytes-clause-exact
returns-then-header-bytes-clause-exact c = trailing c

pub returns-then-header-bytes-clause-found : goal.returns-then-header-bytes-clause-found
returns-then-header-bytes-clause-found c = found_fault _ _ (trailing c)

pub returns-then-header-bytes-clause-reported : goal.returns-then-header-bytes-clause-reported
returns-then-header-bytes-clause-reported c = told_fault _ _ (trailing c)

pub returns-clause-exact : goal.returns-clause-exact
returns-clause-exact c =
    let head = c.in_ok-header.ensures in
    let read = c.in_ok-instrs.ensures in
    let program : Program = record { kind = c.in_ok-header.header.kind; instrs = c.in_ok-instrs.instrs.items } in
    let its : c.version.result ≡ version_of program = c.version.ensures ∙ ap version_of c.from_valid-code.ensures in
    let rows = read.spelt ∙ ap (λ (n : ℕ). take (8 * n) (drop 8 c.args.bytes.now)) head.count in
    rw c.from_valid-code.ensures (spelling_of_parts c.args.bytes.now program c.in_ok-header.header.version c.in_ok-header.header.count (sym its ∙ c.if-version-header.false) (read.length ∙ head.count) head.spelt rows c.if-header-bytes.false)

pub returns-clause-found : goal.returns-clause-found
returns-clause-found c = found_program _ _ (returns-clause-exact c)

pub returns-clause-program : goal.returns-clause-program
returns-clause-program c = rw c.from_valid-code.ensures (search rules)

pub returns-clause-reported : goal.returns-clause-reported
returns-clause-reported c = told_program _ _ (returns-clause-program c) (returns-clause-exact c)
