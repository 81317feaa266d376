mod PemFacts
