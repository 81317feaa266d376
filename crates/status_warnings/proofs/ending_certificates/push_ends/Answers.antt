use Rattle.status_warnings.proofs.ending_certificates.push_ends.Goals as goal

pub returns : goal.returns
returns g c =
    let added = c.in_ok-push_current.ensures in
    (added.0, record { current = _; is_current = c.current.ensures; are = added.1 }, added.2)
