use Rattle.std.proofs.Common.{◌≡◌, ◌⊎◌, ℕ, List, true, inl, inr, ⊎_elim, eqb, arith, rules, slice_index}
use Rattle.std.specs.List.{starts_with}
use Rattle.trlab_bounds.specs.declared.programs.TheConstants.{MAGIC}
use Rattle.trlab_code.specs.declared.program.Kind.TheVariants.{Motion, Change}
use Rattle.trlab_code.specs.Faults.{HasMagic, HasVersion, HasKind, HasCount, HasValidHeader}
use Rattle.trlab_code.proofs.encoding.Header.read.Goals.{in-0, in-1, then-count-eq0-via-then-count-eq0}
use Rattle.trlab_code.proofs.encoding.Header.read.Goals.{then-count-eq0-via-else-count-eq0+then-count-gt-MAX_INSTRUCTIONS}
use Rattle.trlab_code.proofs.encoding.Header.read.Goals as goal

has_magic : (bytes : List ℕ) → true ≡ starts_with eqb bytes MAGIC → HasMagic bytes
has_magic bytes h = search rules

has_version : (bytes : List ℕ) → ((slice_index bytes 4 ≡ 1 → ⊥) × (slice_index bytes 4 ≡ 2)) ⊎ (slice_index bytes 4 ≡ 1) → HasVersion bytes
has_version bytes (inl h) = inr h.1
has_version bytes (inr h) = inl h

no_kind : (bytes : List ℕ) → (slice_index bytes 5 ≡ 0 → ⊥) → (slice_index bytes 5 ≡ 1 → ⊥) → HasKind bytes → ⊥
no_kind bytes other another (Motion, h) = other h
no_kind bytes other another (Change, h) = another h

pub returns-then-version-ne-HEADSPEED_VERSION-clause-fault : goal.returns-then-version-ne-HEADSPEED_VERSION-clause-fault
returns-then-version-ne-HEADSPEED_VERSION-clause-fault c =
    let magic = has_magic c.args.bytes.now c.if-not-starts_with.ensures.value in
    (c.if-bytes-lt-HEADER_BYTES.false, magic, ⊎_elim c.if-version-ne-PLAIN_VERSION.true c.if-version-ne-HEADSPEED_VERSION.true)

pub returns-in_default-clause-fault : goal.returns-in_default-clause-fault
returns-in_default-clause-fault c =
    let magic = has_magic c.args.bytes.now c.if-not-starts_with.ensures.value in
    let version = has_version c.args.bytes.now c.else-version-ne-PLAIN_VERSION.either in
    (c.if-bytes-lt-HEADER_BYTES.false, magic, (version, no_kind c.args.bytes.now (search rules) (search rules)))

pub returns-then-count-eq0-clause-fault : goal.returns-then-count-eq0-clause-fault
returns-then-count-eq0-clause-fault c =
    let magic = has_magic c.args.bytes.now c.if-not-starts_with.ensures.value in
    let version = has_version c.args.bytes.now c.else-version-ne-PLAIN_VERSION.either in
    let kind : HasKind c.args.bytes.now = elim c.match-bytes.branch [ in-0 w ↦ (Motion, w.in-0.is) | in-1 w ↦ (Change, w.in-1.is) ] in
    let count : HasCount c.args.bytes.now → ⊥ = λ few. elim c.then-count-eq0.branch [
      | then-count-eq0-via-then-count-eq0 w ↦ omega (arith, c.from_le_bytes.ensures, c.from-count.ensures, w.if-count-eq0.true, few.0)
      | then-count-eq0-via-else-count-eq0+then-count-gt-MAX_INSTRUCTIONS w ↦ omega (arith, c.from_le_bytes.ensures, c.from-count.ensures, w.if-count-gt-MAX_INSTRUCTIONS.true, few.1)
    ] in
    (c.if-bytes-lt-HEADER_BYTES.false, magic, (version, kind, count))

pub returns-then-bytes-count-clause-fault : goal.returns-then-bytes-count-clause-fault
returns-then-bytes-count-clause-fault c =
    let good : HasValidHeader c.args.bytes.now = record {
      whole = c.if-bytes-lt-HEADER_BYTES.false;
      magic = has_magic c.args.bytes.now c.if-not-starts_with.ensures.value;
      version = has_version c.args.bytes.now c.else-version-ne-PLAIN_VERSION.either;
      kind = elim c.match-bytes.branch [ in-0 w ↦ (Motion, w.in-0.is) | in-1 w ↦ (Change, w.in-1.is) ];
      count = (omega (arith, c.from_le_bytes.ensures, c.from-count.ensures, c.if-count-eq0.false), omega (arith, c.from_le_bytes.ensures, c.from-count.ensures, c.if-count-gt-MAX_INSTRUCTIONS.false));
    } in
    inr (good, λ room. omega (arith, c.from_le_bytes.ensures, c.from-count.ensures, c.if-bytes-count.true, room))

pub returns-clause-good : goal.returns-clause-good
returns-clause-good c = record {
  whole = c.if-bytes-lt-HEADER_BYTES.false;
  magic = has_magic c.args.bytes.now c.if-not-starts_with.ensures.value;
  version = has_version c.args.bytes.now c.else-version-ne-PLAIN_VERSION.either;
  kind = elim c.match-bytes.branch [ in-0 w ↦ (Motion, w.in-0.is) | in-1 w ↦ (Change, w.in-1.is) ];
  count = (omega (arith, c.from_le_bytes.ensures, c.from-count.ensures, c.if-count-eq0.false), omega (arith, c.from_le_bytes.ensures, c.from-count.ensures, c.if-count-gt-MAX_INSTRUCTIONS.false));
}
