use Rattle.std.proofs.Common.{◌≡◌, ◌++◌, drop}
use Rattle.key_view.specs.KeysText.{bundle_words}
use Rattle.key_view.proofs.keys_writer.push_bundle_words.Given as goal

abbrev pub invariant-loop-bundle : goal.invariant-loop-bundle
invariant-loop-bundle l =
    l.out.items ++ bundle_words (drop l.bundle-index l.bundles) ≡ l.fn.out.items ++ bundle_words l.bundles
