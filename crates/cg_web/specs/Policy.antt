-- The policy of the page.
use Rattle.std.specs.Prelude.{ℕ, List, ◌++◌}
use Rattle.base64.specs.Engines.{standard}
use Rattle.base64.specs.GeneralPurpose.{encode_of}
use Rattle.sha2.specs.Sha256.{sha256}
use Rattle.cg_web.specs.declared.policy.TheConstants.{BEFORE_DIGEST, AFTER_DIGEST}

-- the digest of a script, in base64
unfoldable pub digest_text : List ℕ → List ℕ
digest_text script = encode_of standard (sha256 script)

-- the policy of a page that runs this script alone
unfoldable pub policy_text : List ℕ → List ℕ
policy_text script = BEFORE_DIGEST.now ++ (digest_text script ++ AFTER_DIGEST.now)
