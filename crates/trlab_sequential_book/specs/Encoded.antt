-- The bytes by which rules are compared: the same bytes mean the same rule.
use Rattle.std.specs.Prelude.{◌≡◌, ℕ, List, [], Option, Some, None}
use Rattle.trlab_code.specs.Encoding.{encoding}
use Rattle.trlab_verify.specs.Verified.{CheckedProgram}
use Rattle.trlab_rules.specs.Rules.{Programs, IsRule}

-- the encoding of a rule's change program; no bytes for `None`
abbrev pub change_bytes : Option CheckedProgram → List ℕ
change_bytes None = []
change_bytes (Some change) = encoding change.program

-- the bytes are the encodings of the rule's motion program and of its change program, or no bytes if it has
-- none; both programs are accepted, each as one of its kind
pub record IsEncoded (rule : Programs) (motion_code change_code : List ℕ) : Type 0 where
  pub is_rule : IsRule rule
  pub motion : motion_code ≡ encoding rule.motion.program
  pub change : change_code ≡ change_bytes rule.change
