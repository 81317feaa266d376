use Rattle.std.proofs.Common.{◌≡◌, ◌++◌, drop}
use Rattle.json_reports.specs.DocumentJson.{key_texts}
use Rattle.json_reports.proofs.document_object.key_texts.Given as goal

abbrev pub invariant-loop-authority : goal.invariant-loop-authority
invariant-loop-authority l = l.texts.items ++ key_texts (drop l.authority-index l.authorities) ≡ key_texts l.authorities
