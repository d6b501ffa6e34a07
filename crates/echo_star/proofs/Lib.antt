mod Exchanges
