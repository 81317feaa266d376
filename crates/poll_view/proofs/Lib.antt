mod NextPollFacts
